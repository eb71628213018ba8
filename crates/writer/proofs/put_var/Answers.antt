use Rattle.std.proofs.Common.{arith}
use Rattle.construction.proofs.Text.Writing as laws
use Rattle.writer.proofs.put_var.Goals as goal

pub returns : goal.returns
returns c = laws.put_var _ (omega arith) c.put_word-next.ensures c.put_field.ensures
