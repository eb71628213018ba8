use Rattle.std.proofs.Common.{rules, arith}
use Rattle.sweeping.proofs.CallsMade.{called_on, called_refused, called_all}
use Rattle.sweeping.proofs.starting.call_all.Goals as goal

pub returns-then-is_refused : goal.returns-then-is_refused
returns-then-is_refused c =
    called_refused c.loop-i.invariant.0 c.request_in-request.ensures (omega arith) c.call-answer.ensures.0
    c.call-answer.ensures.1 c.is_refused.ensures c.if-is_refused.true c.no_report.ensures
    (rw c.loop-i.invariant.1 at c.put_line.ensures.0) c.put_line.ensures.1

pub loop-i-preserved : goal.loop-i-preserved
loop-i-preserved c = (
  called_on c.loop-i.invariant.0 c.request_in-request.ensures (omega arith) c.call-answer.ensures.0
      c.call-answer.ensures.1 c.is_refused.ensures c.if-is_refused.false,
  c.loop-i.invariant.1,
  search rules,
)

pub returns : goal.returns
returns c = rw (← c.loop-i.invariant.1) (called_all _ c.loop-i.invariant.0 (omega arith))
