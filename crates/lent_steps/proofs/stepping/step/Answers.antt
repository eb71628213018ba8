use Rattle.std.proofs.Common.{refl}
use Rattle.lent_steps.proofs.Judging as judging
use Rattle.lent_steps.proofs.stepping.step.Goals as goal

pub returns-in-Err : goal.returns-in-Err
returns-in-Err c = judging.step_refused _ _ _ c.in-Err.ensures refl

pub returns : goal.returns
returns c =
    judging.step_taken _ _ _ (c.in_default.ensures {u = tt}) refl c.narrow-i.ensures c.advance.ensures.0
    c.advance.ensures.1 c.answer_in.ensures
