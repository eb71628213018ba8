use Rattle.std.proofs.Common.{arith}
use Rattle.sweeping.specs.Printing.{head_text}
use Rattle.sweeping.proofs.Lines as laws
use Rattle.sweeping.proofs.printing.put_head.Goals as goal

pub returns : goal.returns
unfolding head_text
returns c =
    laws.put_three (omega arith) c.put_counts-i.ensures (rw c.bound.ensures at c.put_wait-j.ensures)
    (rw c.gate-gate.ensures at c.put_count.ensures)
