use Rattle.std.proofs.Common.{rules, refl}
use Rattle.lent_text.proofs.Loops as loops
use Rattle.lent_text.proofs.put_values.Goals as goal

pub loop-k-init : goal.loop-k-init
loop-k-init c = (loops.values_start c.args.b.now c.args.starts, refl)

pub loop-k-preserved : goal.loop-k-preserved
loop-k-preserved c = (
  loops.values_turn c.args.b.now c.args.starts _ _ _ _ c.loop-k.invariant.0 c.put_value.ensures refl,
  search rules,
)
