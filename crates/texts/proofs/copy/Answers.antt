use Rattle.std.proofs.Common.{length-set, refl, arith}
use Rattle.texts.proofs.Lines as lines
use Rattle.texts.proofs.copy.Goals as goal

pub loop-k-init : goal.loop-k-init
loop-k-init c = (lines.copy_start _ _ _, refl)

pub loop-k-preserved : goal.loop-k-preserved
loop-k-preserved c = (
  lines.copy_turn c.args.b.now _ c.args.start c.args.to _ c.loop-k.invariant.0 c.requires.1 (omega arith),
  simp length-set c.loop-k.invariant.1,
)

pub returns : goal.returns
returns c = lines.copy_done c.args.b.now _ c.args.start c.args.to _ c.loop-k.invariant.0 (omega arith)
