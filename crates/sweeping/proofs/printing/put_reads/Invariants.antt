use Rattle.std.proofs.Common.{◌≡◌}
use Rattle.block.specs.Layout.{variable_count_in}
use Rattle.sweeping.proofs.Lines.{ReadTo}
use Rattle.sweeping.proofs.printing.put_reads.Given as goal

abbrev pub invariant-loop-v : goal.invariant-loop-v
invariant-loop-v l = (l.count ≡ variable_count_in l.b) × ReadTo l.b l.initial.buffer l.at l.count l.buffer l.i l.v
