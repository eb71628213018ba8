use Rattle.std.proofs.Common.{arith}
use Rattle.sweep_speed.proofs.Laws.{rounds_on, rounds_all}
use Rattle.sweep_speed.proofs.repeat.Goals as goal

pub loop-k-preserved : goal.loop-k-preserved
loop-k-preserved c = rounds_on c.loop-k.invariant (omega arith) c.run.ensures c.added-counts.ensures

pub returns : goal.returns
returns c = rounds_all c.loop-k.invariant (omega arith)
