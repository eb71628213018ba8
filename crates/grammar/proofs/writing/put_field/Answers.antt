use Rattle.std.proofs.Common.{arith}
use Rattle.grammar.proofs.Puts as puts
use Rattle.grammar.proofs.writing.put_field.Goals as goal

pub returns : goal.returns
returns c = puts.put_both (omega arith) c.put_decimal-next.ensures c.put_byte.ensures
