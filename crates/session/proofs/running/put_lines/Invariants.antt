use Rattle.std.proofs.Common.{◌-◌}
use lib.ListN as list
use Rattle.session.proofs.SessionLaws as laws
use Rattle.session.proofs.running.put_lines.Given as goal

abbrev pub invariant-loop-state : goal.invariant-loop-state
invariant-loop-state l = laws.PrintLoop l.calls l.initial.state l.initial.buffer l.state l.length l.buffer

abbrev pub decreases-loop-state : goal.decreases-loop-state
decreases-loop-state l = list.length l.calls - l.state.at
