use Rattle.std.proofs.Common.{arith}
use Rattle.construction.proofs.Text.Writing as laws
use Rattle.writer.proofs.put_program.Goals as goal

pub returns : goal.returns
returns c = laws.put_program c.args.x (omega arith) c.put_word-i.ensures c.put_field-j.ensures c.put_lines.ensures
