use Rattle.std.proofs.Common.{◌≡◌, ◌∙◌, ℕ, leb, map, rules, ap}
use Rattle.std.specs.Option.{is_some}
use Rattle.allowance.specs.Types.{Quota}
use Rattle.allowance.specs.Allowing.{empty, total}
use Rattle.allowance.specs.Opening.{shares}
use Rattle.allowance.proofs.Fours.{map_four, shares_sum, is_left}
use Rattle.allowance.proofs.shares_fit.Goals as goal

pub returns : goal.returns
returns c =
    let l = c.args.quotas in
    let made = c.map.ensures.items in
    let e : c.map.result ≡ map (λ (q : Quota). q.share) l =
    map_four (λ (q : Quota). q.share) empty 0 l c.map.result c.well_formed.1.0.1.0.1 made.long
    (λ i h. let k = (made.at i empty 0 h).2 in search rules) in
    let t : total c.map.result ≡ shares l = ap total e ∙ shares_sum l in
    c.is_some.ensures ∙ (ap is_some c.left_of.ensures ∙ (is_left _ _ ∙ ap (λ (n : ℕ). leb n c.args.steps) t))
