use Rattle.std.proofs.Common.{arith}
use Rattle.sweeping.proofs.Lines as laws
use Rattle.sweeping.proofs.printing.put_counts.Goals as goal

pub returns : goal.returns
returns c = laws.put_three (omega arith) c.put_count-i.ensures c.put_count-j.ensures c.put_count.ensures
