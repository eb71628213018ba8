use Rattle.std.proofs.Common.{ap, rules}
use Rattle.lent_session.proofs.Answered as answered
use Rattle.lent_session.specs.Answering.{Asked, asked_short}
use Rattle.lent_session.proofs.answering.refuses_short.Goals as goal

pub returns-then-loan_words-gt2 : goal.returns-then-loan_words-gt2
returns-then-loan_words-gt2 c =
    rw (← answered.asked _ _ c.args.command c.if-short.true c.loan_words.ensures c.if-loan_words-gt2.true)
    c.asks.ensures

pub returns-else-loan_words-gt2 : goal.returns-else-loan_words-gt2
returns-else-loan_words-gt2 c =
    let e = answered.not_asked_lem c.args.short c.args.b.now c.args.command c.loan_words.ensures
    c.if-loan_words-gt2.false in
    (ap (λ (x : Asked). x.refused) e, ap (λ (x : Asked). x.block) e)

pub returns-else-short : goal.returns-else-short
unfolding asked_short
returns-else-short c = search rules
