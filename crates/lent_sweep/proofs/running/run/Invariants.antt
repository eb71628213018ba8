use Rattle.lent_sweep.proofs.Schedules.{SweptTo}
use Rattle.lent_sweep.proofs.running.run.Given as goal

abbrev pub invariant-loop-i : goal.invariant-loop-i
invariant-loop-i l = SweptTo l.calls l.initial.b l.initial.l l.schedule l.i-index l.b l.l l.counts
