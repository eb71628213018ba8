use Rattle.std.proofs.Common.{length-set, [], refl, arith}
use Rattle.codes.proofs.Lines as lines
use Rattle.codes.proofs.kinds.ProgramPart.read.Goals as goal

pub loop-k-init : goal.loop-k-init
loop-k-init c = (lines.lines_start [] c.args.b.now c.args.at, refl)

pub loop-k-preserved : goal.loop-k-preserved
loop-k-preserved c = (
  lines.lines_turn _ c.args.b.now c.args.at _ _ c.loop-k.invariant.0 (omega arith) (rw c.word.ensures at c.instruction_from.ensures),
  simp length-set c.loop-k.invariant.1,
)

pub returns : goal.returns
returns c =
    lines.lines_done _ c.args.b.now c.args.at _ _ c.loop-k.invariant.0 c.loop-k.invariant.1 (omega arith) (rw c.first.ensures at c.byte.ensures)
