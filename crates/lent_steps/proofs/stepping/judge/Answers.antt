use Rattle.std.proofs.Common.{refl, arith}
use Rattle.std.proofs.lemmas.Result.{err_from_is_err_and}
use Rattle.lent_steps.proofs.Judging as judging
use Rattle.lent_steps.proofs.stepping.judge.Goals as goal

pub returns-in_err-judge_step : goal.returns-in_err-judge_step
returns-in_err-judge_step c =
    let p = err_from_is_err_and c.from_residual.result c.from_residual.ensures.1 in
    rw (p.1, p.2)
    (judging.verdict_refused _ _ _
    (judging.judged_by _ _ c.requires c.control.ensures c.process_count.ensures c.steps.ensures c.limit.ensures
    (c.in_err-judge_step.ensures {u = tt})) refl)

pub returns-then-l-loan_words : goal.returns-then-l-loan_words
returns-then-l-loan_words c =
    judging.verdict_short _ _ _
    (judging.judged_by _ _ c.requires c.control.ensures c.process_count.ensures c.steps.ensures c.limit.ensures
    (c.in_ok-judge_step.ensures {u = tt})) refl c.loan_words.ensures (omega arith)

pub returns : goal.returns
returns c =
    judging.verdict_taken _ _ _
    (judging.judged_by _ _ c.requires c.control.ensures c.process_count.ensures c.steps.ensures c.limit.ensures
    (c.in_ok-judge_step.ensures {u = tt})) refl c.loan_words.ensures (omega arith)
