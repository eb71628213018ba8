use Rattle.std.proofs.Common.{arith}
use Rattle.sweeping.proofs.Lines as laws
use Rattle.sweeping.proofs.printing.put_wait.Goals as goal

pub returns : goal.returns
returns c = laws.put_three (omega arith) c.put_word-i.ensures c.put_field-j.ensures c.put_field.ensures
