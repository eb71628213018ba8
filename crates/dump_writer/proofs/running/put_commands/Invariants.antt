use Rattle.std.proofs.Common.{◌-◌}
use lib.ListN as list
use Rattle.dump_writer.proofs.CourseLaws as laws
use Rattle.dump_writer.proofs.running.put_commands.Given as goal

abbrev pub invariant-loop-course : goal.invariant-loop-course
invariant-loop-course l = laws.PrintLoop l.calls l.initial.course l.initial.buffer l.course l.length l.buffer l.course.session.at

abbrev pub decreases-loop-course : goal.decreases-loop-course
decreases-loop-course l = list.length l.calls - l.course.session.at
