use Rattle.dictionary.proofs.Laws as laws
use Rattle.dictionary.proofs.with_bit.Goals as goal

pub returns-then-variable-lt64 : goal.returns-then-variable-lt64
returns-then-variable-lt64 c = laws.bit_more _ _ c.if-variable-lt64.true

pub returns-else-variable-lt64 : goal.returns-else-variable-lt64
returns-else-variable-lt64 c = laws.bit_past _ _ c.if-variable-lt64.false
