use Rattle.schedule_files.proofs.Laws as laws
use Rattle.schedule_files.proofs.prepare.Goals as goal

pub returns-in-Err : goal.returns-in-Err
returns-in-Err c =
    laws.card_refused _ _ c.args.length c.open-opened.ensures c.in-Err.is c.put_card_refusal-end.ensures.0
    c.put_card_refusal-end.ensures.1 c.over.ensures

pub returns-then-calls-gt-LIMIT : goal.returns-then-calls-gt-LIMIT
returns-then-calls-gt-LIMIT c =
    laws.calls_refused _ _ c.args.length c.open-opened.ensures c.in_default.is c.if-calls-gt-LIMIT.true
    c.put_calls_refusal-end.ensures.0 c.put_calls_refusal-end.ensures.1 c.over-then-calls-gt-LIMIT.ensures

pub returns-in-Err-read_calls : goal.returns-in-Err-read_calls
returns-in-Err-read_calls c =
    laws.line_refused _ _ c.args.length c.open-opened.ensures c.in_default.is c.if-calls-gt-LIMIT.false
    c.read_calls.ensures c.in-Err-read_calls.is c.put_line_refusal-end.ensures.0 c.put_line_refusal-end.ensures.1
    c.over-in-Err-read_calls.ensures

pub returns-then-not-are_callable : goal.returns-then-not-are_callable
returns-then-not-are_callable c =
    laws.six _ _ c.args.length c.open-opened.ensures c.in_default.is c.if-calls-gt-LIMIT.false
    c.read_calls.ensures c.in-Ok.is (rw c.requests_in-requests.ensures at c.are_callable.ensures)
    c.if-not-are_callable.true c.put_refusal_line-end.ensures.0 c.put_refusal_line-end.ensures.1
    c.over-then-not-are_callable.ensures

pub returns-then-not-is_listable : goal.returns-then-not-is_listable
returns-then-not-is_listable c =
    laws.seventeen _ _ c.args.length c.open-opened.ensures c.in_default.is c.if-calls-gt-LIMIT.false
    c.read_calls.ensures c.in-Ok.is (rw c.requests_in-requests.ensures at c.are_callable.ensures)
    c.if-not-are_callable.false c.is_listable.ensures c.if-not-is_listable.true
    c.put_refusal_line-end-then-not-is_listable.ensures.0 c.put_refusal_line-end-then-not-is_listable.ensures.1
    c.over-then-not-is_listable.ensures

pub returns : goal.returns
returns c =
    laws.begins _ _ c.args.length c.open-opened.ensures c.in_default.is c.if-calls-gt-LIMIT.false
    c.read_calls.ensures c.in-Ok.is (rw c.requests_in-requests.ensures at c.are_callable.ensures)
    c.if-not-are_callable.false c.is_listable.ensures c.if-not-is_listable.false
    (rw c.requests_in-requests.ensures at c.call_all.ensures)
