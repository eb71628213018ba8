use Rattle.std.proofs.Common.{length, ◌-◌}
use Rattle.bench.proofs.print_lines.Given as goal

abbrev pub decreases-loop-state : goal.decreases-loop-state
decreases-loop-state g l = length l.calls - l.state.at
