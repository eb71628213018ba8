use Rattle.std.proofs.Common.{arith}
use Rattle.xorshift.proofs.Drawing.{drawn_none, drawn_on}
use Rattle.xorshift.proofs.draw.Goals as goal

pub loop-process-init : goal.loop-process-init
loop-process-init c = drawn_none c.args.buffer.now c.args.x c.args.p

pub loop-process-preserved : goal.loop-process-preserved
loop-process-preserved c = drawn_on c.loop-process.invariant (omega arith) c.next-x.ensures c.remainder.ensures
