use Rattle.std.proofs.Common.{arith}
use Rattle.sweeping.specs.Printing.{summary_text}
use Rattle.sweeping.proofs.Lines as laws
use Rattle.sweeping.proofs.printing.put_summary.Goals as goal

pub returns : goal.returns
unfolding summary_text
returns c = laws.put_two (omega arith) c.put_head-at.ensures c.put_reads.ensures
