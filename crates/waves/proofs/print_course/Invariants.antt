use Rattle.std.proofs.Common.{length, ◌-◌}
use Rattle.waves.proofs.print_course.Given as goal

abbrev pub decreases-loop-course : goal.decreases-loop-course
decreases-loop-course g l = length l.calls - l.course.session.at
