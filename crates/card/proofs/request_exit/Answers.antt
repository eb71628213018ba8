use Rattle.std.proofs.Common.{refl, ◌∙◌}
use Rattle.card.proofs.Accesses as accesses
use Rattle.card.proofs.Requests as requests
use Rattle.card.proofs.request_exit.Goals as goal

pub returns-in-Err : goal.returns-in-Err
returns-in-Err c = c.refused.ensures ∙ requests.exit_refused _ _ _ c.in-Err.ensures refl

pub returns : goal.returns
returns c =
    let a = c.args in
    requests.exit_taken _ _ _ (c.in_default.ensures {u = tt}) refl _ (accesses.asked a.card a.process)
