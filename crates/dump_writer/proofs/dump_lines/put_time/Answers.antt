use Rattle.std.proofs.Common.{arith}
use Rattle.dump_writer.proofs.LineLaws as laws
use Rattle.dump_writer.proofs.dump_lines.put_time.Goals as goal

pub returns : goal.returns
returns c = laws.put_time (omega arith) _ c.put_byte-next.ensures c.put_field.ensures
