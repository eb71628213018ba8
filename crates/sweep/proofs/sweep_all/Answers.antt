use Rattle.std.proofs.Common.{arith, rules}
use Rattle.sweeping.proofs.Progressing.{pieces_on, pieces_all}
use Rattle.sweep.proofs.sweep_all.Goals as goal

pub loop-q-preserved : goal.loop-q-preserved
loop-q-preserved g c = (pieces_on c.loop-q.invariant.0 (omega arith) c.advance-q.ensures, search rules, search rules)

pub returns : goal.returns
returns g c = pieces_all c.loop-q.invariant.0 (omega arith)
