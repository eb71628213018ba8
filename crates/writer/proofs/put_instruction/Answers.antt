use Rattle.std.proofs.Common.{arith}
use Rattle.construction.proofs.Text.Writing as laws
use Rattle.writer.proofs.put_instruction.Goals as goal

pub returns : goal.returns
returns c = laws.put_instruction _ c.encode-e.ensures (omega arith) c.put_word-next.ensures c.put_four.ensures
