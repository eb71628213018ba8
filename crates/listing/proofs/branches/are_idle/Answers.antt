use Rattle.std.proofs.Common.{arith, sym, ◌∙◌}
use Rattle.listing.proofs.Tests as laws
use Rattle.listing.proofs.branches.are_idle.Goals as goal

pub returns-then-not-is_idle_at : goal.returns-then-not-is_idle_at
returns-then-not-is_idle_at c =
    sym (laws.idle_stop c.args.controls _ c.loop-n-test.true c.is_idle_at.ensures c.if-not-is_idle_at.true) ∙
    c.loop-n.invariant

pub loop-n-preserved : goal.loop-n-preserved
loop-n-preserved c =
    sym (laws.idle_turn c.args.controls _ c.loop-n-test.true c.is_idle_at.ensures c.if-not-is_idle_at.false) ∙
    c.loop-n.invariant

pub returns : goal.returns
returns c = sym (laws.idle_none c.args.controls _ (omega arith)) ∙ c.loop-n.invariant
