use Rattle.dictionary.proofs.Laws as laws
use Rattle.dictionary.proofs.insert.Goals as goal

pub returns-then-d-lt32 : goal.returns-then-d-lt32
returns-then-d-lt32 c = laws.insert_more _ _ c.if-d-lt32.true

pub returns-else-d-lt32 : goal.returns-else-d-lt32
returns-else-d-lt32 c = laws.insert_full _ _ c.if-d-lt32.false
