use Rattle.std.proofs.Common.{Ok}
use Rattle.std.proofs.lemmas.Bool.{not_from_false, not_from_true}
use Rattle.allowance.proofs.open.Goals as goal

pub returns-then-not-is_accepted : goal.returns-then-not-is_accepted
returns-then-not-is_accepted c = rw (← c.is_accepted.ensures, c.if-not-is_accepted.true)

pub returns : goal.returns
returns c =
    let a = c.args in
    rw (← c.is_accepted.ensures, c.if-not-is_accepted.false)
    (λ i. Ok (record { steps = a.steps; count = a.count; quotas = c.opened_quotas.ensures i }))
