use Rattle.std.proofs.Common.{refl, ◌∙◌}
use Rattle.card.proofs.Accesses as accesses
use Rattle.card.proofs.Requests as requests
use Rattle.card.proofs.call.Goals as goal

pub returns-in-Err : goal.returns-in-Err
returns-in-Err c = c.refused.ensures ∙ requests.call_refused _ _ _ _ c.in-Err.ensures _ refl

pub returns : goal.returns
returns c =
    let a = c.args in
    requests.call_taken _ _ _ _ (c.in_default.ensures {u = tt}) _ refl _ (accesses.called a.card a.process a.program a.inputs)
