use Rattle.std.proofs.Common.{◌-◌}
use lib.ListN as list
use Rattle.machine_session.specs.Session.{stage}
use Rattle.machine_session.proofs.Lines as laws
use Rattle.machine_session.proofs.running.put_lines.Given as goal

abbrev pub invariant-loop-state : goal.invariant-loop-state
invariant-loop-state l =
    laws.PrintLoop l.calls (stage l.initial.state l.initial.blocks l.initial.loans) l.initial.buffer (stage l.state l.blocks l.loans) l.length l.buffer

abbrev pub decreases-loop-state : goal.decreases-loop-state
decreases-loop-state l = list.length l.calls - l.state.at
