use Rattle.std.proofs.Common.{◌≡◌}
use Rattle.listing.specs.Prefixes.{are_idle}
use Rattle.listing.proofs.branches.are_idle.Given as goal

abbrev pub invariant-loop-n : goal.invariant-loop-n
invariant-loop-n l = are_idle l.controls l.n ≡ are_idle l.controls l.count
