use Rattle.std.proofs.Common.{◌≡◌, sym, ◌∙◌, Ok, Err}
use Rattle.construction.specs.Opening.{opened, fresh}
use Rattle.construction.proofs.Text.RoundTrip.{read_empty}
use Rattle.construction.proofs.Text.Given as given
use Rattle.reader.proofs.open.Goals as goal

pub returns-in-Ok : goal.returns-in-Ok
unfolding opened
returns-in-Ok c =
    let g = given.given_ok _ _ c.in-Ok.ensures in
    rw c.fresh.ensures (λ i. record { card = fresh (g.1 i).value; verdict = sym g.0 i })

pub returns-in-Err : goal.returns-in-Err
unfolding opened
returns-in-Err c =
    let g = given.given_err _ _ c.in-Err.ensures in
    let none = read_empty c.args.text.now (λ a. let q : Err c.in-Err.refused ≡ Ok tt = sym g ∙ a in cc) in
    rw (c.fresh-in-Err.ensures, c.no_contents.ensures) (λ i. record { card = fresh (sym none i); verdict = sym g i })
