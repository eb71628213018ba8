use Rattle.std.proofs.Common.{arith}
use Rattle.grammar.proofs.Puts as puts
use Rattle.grammar.proofs.writing.+put_decimal.Goals as goal

pub returns-then-value-lt10 : goal.returns-then-value-lt10
returns-then-value-lt10 t c = puts.put_digit c.if-value-lt10.true c.put_byte.ensures

pub returns-else-value-lt10 : goal.returns-else-value-lt10
returns-else-value-lt10 t c = puts.put_digits c.if-value-lt10.false (omega arith) c.put_decimal-next.ensures c.put_byte-else-value-lt10.ensures
