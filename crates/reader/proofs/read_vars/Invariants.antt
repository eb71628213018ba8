use Rattle.std.proofs.Common.{◌≡◌, ◌+◌, ◌-◌, ◌≤◌}
use Rattle.construction.specs.Opening.{gathered, so_far, vars_from}
use lib.ListN as list
use Rattle.reader.proofs.read_vars.Given as goal

abbrev pub invariant-loop-k : goal.invariant-loop-k
invariant-loop-k l =
    (vars_from l.text l.count 0 (so_far l.contents l.start l.first) ≡ vars_from l.text (l.count - l.k) l.k (so_far
    (gathered l.contents l.starts l.contents.programs) l.at l.number)) × (l.number ≤ l.first + l.k) × (list.length l.starts ≡ 64)
