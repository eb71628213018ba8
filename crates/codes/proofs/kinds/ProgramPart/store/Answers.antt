use Rattle.codes.proofs.Lines as lines
use Rattle.codes.proofs.kinds.ProgramPart.store.Goals as goal

pub loop-k-init : goal.loop-k-init
loop-k-init c = lines.put_start_lem c.put_first.new.b c.args.at c.args.self

pub loop-k-preserved : goal.loop-k-preserved
loop-k-preserved c =
    rw c.put_word.ensures (lines.put_turn c.put_first.new.b _ c.args.at _ _ c.args.self c.loop-k.invariant c.instruction_word.ensures)
