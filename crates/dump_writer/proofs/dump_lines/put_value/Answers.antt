use Rattle.std.proofs.Common.{arith}
use Rattle.dump_writer.proofs.LineLaws as laws
use Rattle.dump_writer.proofs.dump_lines.put_value.Goals as goal

pub returns : goal.returns
returns c =
    let a = c.args in
    laws.put_value_lem (omega arith) a.variable a.value c.put_byte-i.ensures c.put_binary-j.ensures
    c.put_byte-k.ensures c.put_byte-l.ensures c.put_byte.ensures
