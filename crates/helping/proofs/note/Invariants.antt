use Rattle.std.proofs.Common.{◌≤◌, ◌≡◌, length, take}
use Rattle.helping.specs.Numbers.{with_values}
use Rattle.helping.proofs.note.Given as goal

abbrev pub invariant-loop-k : goal.invariant-loop-k
invariant-loop-k l = (l.d ≡ with_values l.initial.d (take l.k l.numbers.values)) × (l.end ≤ length l.numbers.values)
