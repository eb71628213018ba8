use Rattle.std.proofs.Common.{arith}
use Rattle.listing.proofs.Tests as laws
use Rattle.listing.proofs.runs.runs_on.Goals as goal

pub returns-then-near-left : goal.returns-then-near-left
returns-then-near-left c =
    laws.runs_near c.args.left c.args.controls c.args.count c.args.k c.args.steps c.args.limit
    c.place_at-place.ensures c.distance-near.ensures c.if-near-left.true

pub returns-then-not-are_far : goal.returns-then-not-are_far
returns-then-not-are_far c =
    laws.runs_others c.args.left c.args.controls c.args.count c.args.k c.args.steps c.args.limit
    c.place_at-place.ensures c.distance-near.ensures c.if-near-left.false c.are_far.ensures
    c.if-not-are_far.true

pub returns-then-limit-steps : goal.returns-then-limit-steps
returns-then-limit-steps c =
    laws.runs_limited c.args.left c.args.controls c.args.count c.args.k c.args.steps c.args.limit
    c.place_at-place.ensures c.distance-near.ensures c.if-near-left.false c.are_far.ensures
    c.if-not-are_far.false (omega arith)

pub returns-then-limit-steps-2 : goal.returns-then-limit-steps-2
returns-then-limit-steps-2 c =
    laws.runs_limited c.args.left c.args.controls c.args.count c.args.k c.args.steps c.args.limit
    c.place_at-place.ensures c.distance-near.ensures c.if-near-left.false c.are_far.ensures
    c.if-not-are_far.false (omega arith)

pub returns : goal.returns
returns c =
    laws.runs_free c.args.left c.args.controls c.args.count c.args.k c.args.steps c.args.limit
    c.place_at-place.ensures c.distance-near.ensures c.if-near-left.false c.are_far.ensures
    c.if-not-are_far.false (omega arith)
