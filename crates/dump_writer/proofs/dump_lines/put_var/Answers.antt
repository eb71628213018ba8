use Rattle.std.proofs.Common.{arith}
use Rattle.dump_writer.proofs.LineLaws as laws
use Rattle.dump_writer.proofs.dump_lines.put_var.Goals as goal

pub returns : goal.returns
returns c =
    laws.put_var (omega arith) c.args.variable c.put_word-i.ensures c.put_byte-j.ensures c.put_word-k.ensures
    c.put_decimal-l.ensures c.put_word.ensures
