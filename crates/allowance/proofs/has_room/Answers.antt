use Rattle.std.proofs.Common.{◌≡◌, ◌∙◌, ℕ, ltb, map, rules, ap}
use Rattle.allowance.specs.Allowing.{empty, larger, reserved, total}
use Rattle.allowance.proofs.Fours.{map_four, reserved_sum, room_left, no_room}
use Rattle.allowance.proofs.Rooms.{quotas_four}
use Rattle.allowance.proofs.has_room.Goals as goal
use Rattle.allowance.proofs.has_room.Goals.{After-map}

-- what is taken off is what is reserved
taken : (c : After-map) → total c.map.result ≡ reserved c.args.a.quotas
taken c =
    let a = c.args.a in
    let made = c.map.ensures.items in
    let e : c.map.result ≡ map larger a.quotas =
    map_four larger empty 0 a.quotas c.map.result (quotas_four a _ c.well_formed.0) made.long
    (λ i h. let k = (made.at i empty 0 h).2 in search rules) in
    ap total e ∙ reserved_sum a.quotas

pub returns-in-Some : goal.returns-in-Some
returns-in-Some c =
    let a = c.args.a in
    room_left _ _ (c.in-Some.ensures {u = tt}) ∙ ap (λ (n : ℕ). ltb n a.steps) (taken (goal.at.returns-in-Some c).After-map)

pub returns-in-None : goal.returns-in-None
returns-in-None c =
    let a = c.args.a in
    no_room _ _ (c.in-None.ensures {u = tt}) ∙ ap (λ (n : ℕ). ltb n a.steps) (taken (goal.at.returns-in-None c).After-map)
