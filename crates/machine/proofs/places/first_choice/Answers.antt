use Rattle.machine.proofs.Laws as laws
use Rattle.machine.proofs.places.first_choice.Goals as goal

pub returns-then-process_count-gt0 : goal.returns-then-process_count-gt0
returns-then-process_count-gt0 c = laws.choice_of _ _ c.if-process_count-gt0.true

pub returns : goal.returns
returns c = laws.choice_none _ _ c.if-process_count-gt0.false
