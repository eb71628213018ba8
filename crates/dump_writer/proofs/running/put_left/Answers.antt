use Rattle.std.proofs.Common.{arith}
use Rattle.dump_writer.proofs.CourseLaws as laws
use Rattle.dump_writer.proofs.running.put_left.Goals as goal

pub loop-course-smaller : goal.loop-course-smaller
loop-course-smaller c =
    laws.left_less c.loop-course.invariant (omega arith) c.loop-course-test.true c.put_command-piece.ensures

pub loop-course-preserved : goal.loop-course-preserved
loop-course-preserved c =
    laws.left_turn c.loop-course.invariant (omega arith) c.loop-course-test.true c.put_command-piece.ensures

pub returns : goal.returns
returns c = laws.left_last c.loop-course.invariant (omega arith) c.loop-course-test.false c.put_above.ensures
