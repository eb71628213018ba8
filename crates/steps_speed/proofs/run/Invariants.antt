use Rattle.std.proofs.Common.{◌≡◌, ◌-◌}
use Rattle.steps_speed.specs.Runs.{run_from}
use Rattle.steps_speed.proofs.run.Given as goal

-- the steps that are left end as all do
abbrev pub invariant-loop-k : goal.invariant-loop-k
invariant-loop-k l = run_from l.count 0 l.initial.random l.initial.answered ≡ run_from (l.count - l.k) l.k l.random l.answered
