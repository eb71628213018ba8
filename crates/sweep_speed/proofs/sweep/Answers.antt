use Rattle.std.proofs.Common.{arith}
use Rattle.sweeping.proofs.Progressing.{pieces_on, pieces_all}
use Rattle.sweep_speed.proofs.sweep.Goals as goal

pub loop-q-preserved : goal.loop-q-preserved
loop-q-preserved c = pieces_on c.loop-q.invariant (omega arith) c.advance-q.ensures

pub returns : goal.returns
returns c = pieces_all c.loop-q.invariant (omega arith)
