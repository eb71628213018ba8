use Rattle.std.proofs.Common.{arith}
use Rattle.sweeping.proofs.Lines.{read_on, read_all}
use Rattle.sweeping.proofs.printing.put_reads.Goals as goal

pub loop-v-preserved : goal.loop-v-preserved
loop-v-preserved c = (
  c.loop-v.invariant.0,
  read_on c.loop-v.invariant.1 (omega arith) c.read.ensures c.no_report.ensures c.put_line-i.ensures.0,
)

pub returns : goal.returns
returns c = rw c.loop-v.invariant.0 at (read_all c.loop-v.invariant.1 (omega arith))
