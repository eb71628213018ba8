use Rattle.std.proofs.Common.{arith}
use Rattle.calls.proofs.Lines as laws
use Rattle.calls.proofs.reading.read_calls.Goals as goal

pub loop-i-init : goal.loop-i-init
loop-i-init c = laws.read_none_lem c.args.text.now c.args.count

pub returns-in_default : goal.returns-in_default
returns-in_default c =
    laws.read_wrong c.loop-i.invariant (omega arith) c.command_at-parsed.ensures c.requested.ensures c.in_default.is

pub loop-i-preserved : goal.loop-i-preserved
loop-i-preserved c =
    laws.read_on c.loop-i.invariant (omega arith) c.command_at-parsed.ensures c.requested.ensures c.in-Some.is
    c.put_request-more.ensures

pub returns-then-at-text : goal.returns-then-at-text
returns-then-at-text c = laws.read_left_over c.loop-i.invariant (omega arith) (omega arith)

pub returns : goal.returns
returns c = laws.read_all c.loop-i.invariant (omega arith) (omega arith)
