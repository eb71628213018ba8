use Rattle.std.proofs.Common.{arith}
use Rattle.grammar.proofs.Puts as puts
use Rattle.grammar.proofs.writing.put_four.Goals as goal

pub returns : goal.returns
returns c = puts.put_fields _ _ _ _ (omega arith) c.put_field-i.ensures c.put_field-j.ensures c.put_field-k.ensures c.put_field.ensures
