use Rattle.std.proofs.Common.{min, ◌∙◌, arith, length, length-set}
use Rattle.lent_session.proofs.Altered as altered
use Rattle.lent_session.proofs.altering.alter.Goals as goal

pub loop-k-preserved : goal.loop-k-preserved
loop-k-preserved c =
    let a = c.args in
    let n = min a.words (length a.l.now) in
    let on = altered.draws_on n c.loop-k.k _ _ c.loop-k.l (omega (arith, c.min-k-end.ensures)) c.next-drawn.ensures in
    (c.loop-k.invariant.0 ∙ on.0, c.loop-k.invariant.1 ∙ on.1, simp length-set c.loop-k.invariant.2)

pub returns-after-loop-k : goal.returns-after-loop-k
returns-after-loop-k c =
    let a = c.args in
    let n = min a.words (length a.l.now) in
    let done = altered.draws_done n c.loop-k.k c.loop-k.drawn c.loop-k.l (omega (arith, c.min-k-end.ensures)) in
    altered.altered_to a.l.now a.words a.x _ _ c.if-x-ne0.true (c.loop-k.invariant.0 ∙ done.0)
    (c.loop-k.invariant.1 ∙ done.1)
