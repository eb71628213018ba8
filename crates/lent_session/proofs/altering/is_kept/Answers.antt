use Rattle.std.proofs.Common.{sym, ◌∙◌}
use Rattle.lent_session.proofs.Altered as altered
use Rattle.lent_session.proofs.altering.is_kept.Goals as goal

pub returns-then-l-k-ne-PATTERN : goal.returns-then-l-k-ne-PATTERN
returns-then-l-k-ne-PATTERN c =
    sym (c.loop-k.invariant ∙ altered.keeps_not _ c.loop-k.k c.loop-k-test.true c.if-l-k-ne-PATTERN.true)

pub loop-k-preserved : goal.loop-k-preserved
loop-k-preserved c = c.loop-k.invariant ∙ altered.keeps_on _ c.loop-k.k c.loop-k-test.true c.if-l-k-ne-PATTERN.false

pub returns : goal.returns
returns c = sym (c.loop-k.invariant ∙ altered.keeps_end _ c.loop-k.k c.loop-k-test.false)
