use Rattle.std.proofs.Common.{arith}
use Rattle.allowance.proofs.Fours.{ordered_no, ordered_more, ordered_end}
use Rattle.allowance.proofs.are_ordered.Goals as goal

pub returns-then-q : goal.returns-then-q
returns-then-q c = ordered_no _ _ c.loop-q.invariant (omega arith) c.if-q.true

pub loop-q-preserved : goal.loop-q-preserved
loop-q-preserved c = ordered_more _ _ c.loop-q.invariant (omega arith) c.if-q.false

pub returns : goal.returns
returns c = ordered_end _ _ c.loop-q.invariant (omega arith)
