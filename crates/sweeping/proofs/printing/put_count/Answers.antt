use Rattle.std.proofs.Common.{arith}
use Rattle.sweeping.proofs.Lines as laws
use Rattle.sweeping.proofs.printing.put_count.Goals as goal

pub returns : goal.returns
returns c = laws.put_two (omega arith) c.put_word-next.ensures c.put_field.ensures
