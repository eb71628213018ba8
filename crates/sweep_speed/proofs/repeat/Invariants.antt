use Rattle.sweep_speed.proofs.Laws.{RoundsTo}
use Rattle.sweep_speed.proofs.repeat.Given as goal

-- so many rounds are made
abbrev pub invariant-loop-k : goal.invariant-loop-k
invariant-loop-k l = RoundsTo l.calls l.schedule l.count l.initial.b l.initial.l l.k (record { block = l.b; loan = l.l; counts = l.counts })
