use Rattle.programs.proofs.Laws as laws
use Rattle.programs.proofs.instruction_at.Goals.{else-counter-length-via-then-counter-length+else-counter-lt32, else-counter-length-via-else-counter-length}
use Rattle.programs.proofs.instruction_at.Goals as goal

pub returns-then-counter-lt32 : goal.returns-then-counter-lt32
returns-then-counter-lt32 c = laws.at_there _ _ _ c.if-counter-length.true c.if-counter-lt32.true

pub returns-else-counter-length : goal.returns-else-counter-length
returns-else-counter-length c =
    elim c.else-counter-length.branch [
      | else-counter-length-via-then-counter-length+else-counter-lt32 w ↦ laws.at_past _ _ _ w.if-counter-length.true w.if-counter-lt32.false
      | else-counter-length-via-else-counter-length w ↦ laws.at_end_lem _ _ _ w.if-counter-length.false
    ]
