use Rattle.std.proofs.Common.{[], arith, lt-ltb, le-ltb, refl}
use Rattle.session.proofs.SessionLaws as laws
use Rattle.session.proofs.running.start.Goals as goal

pub returns-in-Err : goal.returns-in-Err
returns-in-Err c =
    laws.starts c.open-opened.ensures c.put_card_refusal-length.ensures c.begun.ensures (rw c.in-Err.is)

pub returns-then-calls-gt-LIMIT : goal.returns-then-calls-gt-LIMIT
returns-then-calls-gt-LIMIT c =
    laws.starts c.open-opened.ensures c.put_calls_refusal-length.ensures c.begun-then-calls-gt-LIMIT.ensures
    (rw (c.in_default.is, lt-ltb _ _ c.if-calls-gt-LIMIT.true))

pub returns : goal.returns
returns c =
    laws.starts {x = []} c.open-opened.ensures (record { place = refl; bytes = refl }, omega arith)
    c.begun-2.ensures (rw (c.in_default.is, le-ltb _ _ c.if-calls-gt-LIMIT.false))
