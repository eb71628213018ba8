use Rattle.dump_reader.proofs.Laws as laws
use Rattle.dump_reader.proofs.header.digits.Goals as goal

pub returns-then-variable-lt10 : goal.returns-then-variable-lt10
returns-then-variable-lt10 c = laws.digits_one _ c.if-variable-lt10.true

pub returns-else-variable-lt10 : goal.returns-else-variable-lt10
returns-else-variable-lt10 c = laws.digits_two _ c.if-variable-lt10.false c.requires
