use Rattle.std.proofs.Common.{arith}
use Rattle.dump_writer.proofs.LineLaws as laws
use Rattle.dump_writer.proofs.dump_lines.+put_binary.Goals as goal

pub returns-then-value-lt2 : goal.returns-then-value-lt2
returns-then-value-lt2 t c = laws.put_bit c.if-value-lt2.true c.put_byte.ensures

pub returns-else-value-lt2 : goal.returns-else-value-lt2
returns-else-value-lt2 t c =
    laws.put_bits c.if-value-lt2.false (omega arith) c.put_binary-next.ensures c.put_byte-else-value-lt2.ensures
