use Rattle.std.proofs.Common.{rules, refl}
use Rattle.lent_text.proofs.Loops as loops
use Rattle.lent_text.proofs.put_programs.Goals as goal

pub loop-k-init : goal.loop-k-init
loop-k-init c = (loops.programs_start c.args.b.now c.args.programs, refl)

pub loop-k-preserved : goal.loop-k-preserved
loop-k-preserved c = (
  loops.programs_turn c.args.b.now c.args.programs _ _ _ _ c.loop-k.invariant.0 c.put_texts.ensures (search rules),
  search rules,
)
