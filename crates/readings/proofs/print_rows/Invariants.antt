use Rattle.std.proofs.Common.{length, ◌-◌}
use Rattle.readings.proofs.print_rows.Given as goal

abbrev pub decreases-loop-scan : goal.decreases-loop-scan
decreases-loop-scan g l = length l.text - l.scan.at
