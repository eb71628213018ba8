use Rattle.std.proofs.Common.{arith}
use Rattle.dump_writer.proofs.CourseLaws as laws
use Rattle.dump_writer.proofs.running.put_commands.Goals as goal

pub returns-then-buffer-piece : goal.returns-then-buffer-piece
returns-then-buffer-piece c =
    laws.print_loop_stopped c.loop-course.invariant (omega arith) c.loop-course-test.true c.put_command-piece.ensures
    c.if-buffer-piece.true

pub loop-course-smaller : goal.loop-course-smaller
loop-course-smaller c =
    laws.print_loop_less c.loop-course.invariant (omega arith) c.loop-course-test.true c.put_command-piece.ensures

pub loop-course-preserved : goal.loop-course-preserved
loop-course-preserved c =
    laws.print_loop_again c.loop-course.invariant (omega arith) c.loop-course-test.true c.put_command-piece.ensures
    c.if-buffer-piece.false

pub returns : goal.returns
returns c = laws.print_loop_end c.loop-course.invariant (omega arith) c.loop-course-test.false
