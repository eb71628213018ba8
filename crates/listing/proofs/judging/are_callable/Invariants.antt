use Rattle.std.proofs.Common.{◌-◌, ◌≡◌}
use Rattle.executions.specs.Listings.{are_callable}
use Rattle.listing.proofs.judging.are_callable.Given as goal

abbrev pub invariant-loop-k : goal.invariant-loop-k
invariant-loop-k l =
    are_callable l.card l.calls (l.card.process_count - l.k) l.k ≡ are_callable l.card l.calls l.card.process_count 0
