use Rattle.std.proofs.Common.{◌≡◌, ℕ, ◌<◌, rules, map, get_or}
use Rattle.allowance.specs.Allowing.{empty, unused, turn}
use Rattle.allowance.proofs.Fours.{map_four}
use Rattle.allowance.proofs.Rooms.{quotas_four}
use Rattle.allowance.proofs.turned.Goals as goal

pub returns : goal.returns
unfolding turn
returns c =
    let a = c.args.a in
    let made = c.map.ensures.items in
    let e : c.map.result ≡ map unused a.quotas =
    map_four unused empty empty a.quotas c.map.result (quotas_four a _ c.well_formed.0) made.long
    (λ i h. let k = (made.at i empty empty h).2 in search rules) in
    λ j. record { steps = a.steps; count = a.count; quotas = e j }
