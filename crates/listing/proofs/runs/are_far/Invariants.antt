use Rattle.std.proofs.Common.{◌≡◌}
use Rattle.listing.specs.Runs.{are_far}
use Rattle.listing.proofs.runs.are_far.Given as goal

abbrev pub invariant-loop-m : goal.invariant-loop-m
invariant-loop-m l = are_far l.n l.controls l.m ≡ are_far l.n l.controls l.count
