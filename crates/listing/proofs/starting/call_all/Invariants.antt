use Rattle.std.proofs.Common.{◌-◌, ◌≡◌}
use Rattle.executions.proofs.Runs.{called_from}
use Rattle.listing.proofs.starting.call_all.Given as goal

abbrev pub invariant-loop-k : goal.invariant-loop-k
invariant-loop-k l =
    called_from l.c l.calls (l.fn.card.process_count - l.k) l.k ≡ called_from l.initial.c l.calls l.fn.card.process_count 0
