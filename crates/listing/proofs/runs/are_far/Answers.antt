use Rattle.std.proofs.Common.{arith, sym, ◌∙◌}
use Rattle.listing.proofs.Tests as laws
use Rattle.listing.proofs.runs.are_far.Goals as goal

pub returns-then-not-is_far : goal.returns-then-not-is_far
returns-then-not-is_far c =
    sym
    (laws.far_stop c.args.n c.args.controls _ c.loop-m-test.true c.place_at.ensures c.is_far.ensures
    c.if-not-is_far.true) ∙ c.loop-m.invariant

pub loop-m-preserved : goal.loop-m-preserved
loop-m-preserved c =
    sym
    (laws.far_turn c.args.n c.args.controls _ c.loop-m-test.true c.place_at.ensures c.is_far.ensures
    c.if-not-is_far.false) ∙ c.loop-m.invariant

pub returns : goal.returns
returns c = sym (laws.far_none c.args.n c.args.controls _ (omega arith)) ∙ c.loop-m.invariant
