use Rattle.std.proofs.Common.{◌≡◌, ◌-◌}
use Rattle.steps_speed.specs.Runs.{called_from}
use Rattle.steps_speed.proofs.call_all.Given as goal

-- the calls that are left end as all do
abbrev pub invariant-loop-process : goal.invariant-loop-process
invariant-loop-process l = called_from 8 0 l.initial.answered ≡ called_from (8 - l.process) l.process l.answered
