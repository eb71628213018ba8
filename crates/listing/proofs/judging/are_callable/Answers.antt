use Rattle.std.proofs.Common.{arith, sym, ◌∙◌}
use Rattle.listing.proofs.Tests as laws
use Rattle.listing.proofs.judging.are_callable.Goals as goal

pub returns-then-not-is_below : goal.returns-then-not-is_below
returns-then-not-is_below c =
    sym
    (laws.callable_stop c.args.card c.args.calls _ _ c.loop-k-test.true c.request_at.ensures
    c.is_below.ensures c.if-not-is_below.true) ∙ c.loop-k.invariant

pub loop-k-preserved : goal.loop-k-preserved
loop-k-preserved c =
    sym
    (laws.callable_turn c.args.card c.args.calls _ _ c.loop-k-test.true c.request_at.ensures
    c.is_below.ensures c.if-not-is_below.false) ∙ c.loop-k.invariant

pub returns : goal.returns
returns c = sym (laws.callable_none c.args.card c.args.calls _ _ (omega arith)) ∙ c.loop-k.invariant
