use Rattle.std.proofs.Common.{arith, refl, ℕ, length-set}
use Rattle.block.specs.Layout.{start_in}
use Rattle.lent_text.proofs.Contents as contents
use Rattle.lent_text.proofs.starts_of.Goals as goal

pub loop-k-init : goal.loop-k-init
loop-k-init c = (contents.table_start (λ (v : ℕ). start_in c.args.b.now v), refl)

pub loop-k-preserved : goal.loop-k-preserved
loop-k-preserved c = (
  contents.table_turn (λ (v : ℕ). start_in c.args.b.now v) _ _ _ c.loop-k.invariant.0 (omega arith) c.start.ensures,
  simp length-set c.loop-k.invariant.1,
)
