use Rattle.std.proofs.Common.{◌+◌, ◌-◌, ◌*◌, ◌≤◌, ◌≡◌}
use Rattle.construction.specs.Opening.{gathered, so_far, programs_from}
use lib.ListN as list
use Rattle.reader.proofs.read_programs.Given as goal

abbrev pub invariant-loop-k : goal.invariant-loop-k
invariant-loop-k l =
    (programs_from l.text l.count 0 (so_far l.contents l.start l.first) ≡ programs_from l.text (l.count - l.k) l.k
    (so_far (gathered l.contents l.contents.starts l.programs) l.at l.number)) × (l.number ≤ l.first + 33 * l.k) × (list.length l.programs ≡ 8)
