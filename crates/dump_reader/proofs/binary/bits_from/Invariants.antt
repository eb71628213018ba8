use Rattle.std.proofs.Common.{length, drop, max, ◌≤◌, ◌≡◌}
use Rattle.dump.specs.Binary.{bits, over}
use Rattle.dump_reader.proofs.binary.bits_from.Given as goal

abbrev pub invariant-loop-i : goal.invariant-loop-i
invariant-loop-i l =
    (bits l.at 0 (drop l.at l.text) ≡ bits l.i l.value (drop l.i l.text)) × (l.value ≤ over) × (l.i ≤ max l.at (length l.text))
