use Rattle.std.proofs.Common.{arith, sym, ◌∙◌}
use Rattle.machine_terms.proofs.Laws as laws
use Rattle.machine_terms.proofs.read_quotas.Goals as goal

pub loop-k-init : goal.loop-k-init
loop-k-init c = laws.quotas_begin _ _ _ c.no_quota-quotas.ensures

pub returns-in_default : goal.returns-in_default
returns-in_default c =
    sym
    (laws.quotas_stop _ c.args.count c.loop-k.k c.loop-k.at c.loop-k.quotas c.loop-k-test.true c.line_at.ensures
    c.in_default.is) ∙ c.loop-k.invariant

pub loop-k-preserved : goal.loop-k-preserved
loop-k-preserved c =
    sym
    (laws.quotas_turn _ c.args.count c.loop-k.k c.loop-k.at c.loop-k.quotas c.loop-k-test.true
    c.line_at.ensures c.in-Some.is c.quota_of.ensures c.with_quota-more.ensures) ∙ c.loop-k.invariant

pub returns-then-at-text : goal.returns-then-at-text
returns-then-at-text c =
    sym
    (laws.quotas_more _ c.args.count c.loop-k.k c.loop-k.at c.loop-k.quotas c.loop-k-test.false
    (omega arith) c.if-at-text.true) ∙ c.loop-k.invariant

pub returns : goal.returns
returns c =
    sym
    (laws.quotas_done _ c.args.count c.loop-k.k c.loop-k.at c.loop-k.quotas c.loop-k-test.false
    c.if-at-text.false) ∙ c.loop-k.invariant
