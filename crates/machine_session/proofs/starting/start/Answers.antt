use Rattle.machine_session.proofs.Started as laws
use Rattle.machine_session.proofs.starting.start.Goals as goal

pub returns-in-Err : goal.returns-in-Err
returns-in-Err c =
    laws.terms_refused _ _ _ _ c.read_terms-read.ensures c.in-Err.is c.put_terms_refusal-length.ensures
    c.begun.ensures

pub returns-in-Err-verdict : goal.returns-in-Err-verdict
returns-in-Err-verdict c =
    laws.card_refused _ _ _ _ c.read_terms-read.ensures c.in_default.is c.open_cards-opened.ensures
    c.in-Err-verdict.is c.put_card_refusal-length.ensures c.begun-in-Err-verdict.ensures

pub returns-then-calls-gt-LIMIT : goal.returns-then-calls-gt-LIMIT
returns-then-calls-gt-LIMIT c =
    laws.calls_refused _ _ _ _ c.read_terms-read.ensures c.in_default.is c.open_cards-opened.ensures
    c.in_default-verdict.is c.if-calls-gt-LIMIT.true c.put_calls_refusal-length.ensures
    c.begun-then-calls-gt-LIMIT.ensures

pub returns : goal.returns
returns c =
    laws.started _ _ _ _ c.read_terms-read.ensures c.in_default.is c.open_cards-opened.ensures
    c.in_default-verdict.is c.if-calls-gt-LIMIT.false c.begun-2.ensures
