use Rattle.std.proofs.Common.{arith}
use Rattle.sweeping.proofs.Files as laws
use Rattle.sweeping.proofs.starting.start.Goals as goal

pub returns-in-Err : goal.returns-in-Err
returns-in-Err c =
    laws.card_refused c.args.calls.now c.open-verdict.ensures c.in-Err.is c.put_card_refusal.ensures c.over.ensures

pub returns-then-calls-gt-LIMIT : goal.returns-then-calls-gt-LIMIT
returns-then-calls-gt-LIMIT c =
    laws.calls_long c.args.calls.now c.open-verdict.ensures c.in_default.is c.if-calls-gt-LIMIT.true
    c.put_calls_refusal.ensures c.over-then-calls-gt-LIMIT.ensures

pub returns-in-Err-read_calls : goal.returns-in-Err-read_calls
returns-in-Err-read_calls c =
    laws.line_refused c.args.calls.now c.open-verdict.ensures c.in_default.is (omega arith) c.process_count.ensures
    c.read_calls.ensures c.in-Err-read_calls.is c.put_line_refusal.ensures c.over-in-Err-read_calls.ensures

pub returns : goal.returns
returns c =
    laws.starts c.args.calls.now c.open-verdict.ensures c.in_default.is (omega arith) c.process_count.ensures
    c.read_calls.ensures c.in-Ok.is c.call_all-length.ensures
