use Rattle.std.proofs.Common.{refl, length-set, arith}
use Rattle.loan.proofs.Held as laws
use Rattle.loan.proofs.items.Span.put_values.Goals as goal

pub loop-k-init : goal.loop-k-init
loop-k-init c = (laws.values_start _ _ _, refl, (λ j p. absurd (omega arith)))

pub loop-k-preserved : goal.loop-k-preserved
loop-k-preserved c = (
  laws.values_more _ _ _ _ _ _ c.loop-k.invariant.0 c.put_value.ensures.0,
  (rw c.put_value.ensures.0 (simp length-set c.loop-k.invariant.1)),
  laws.below_or_last _ _ c.loop-k.invariant.2 c.put_value.ensures.1,
)
