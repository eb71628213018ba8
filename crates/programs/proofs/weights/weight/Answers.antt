use Rattle.std.proofs.Common.{refl, arith, rules}
use Rattle.construction.specs.Weight.{weight_before}
use Rattle.programs.proofs.Weighing as laws
use Rattle.programs.proofs.weights.weight.Goals as goal

pub loop-k-init : goal.loop-k-init
unfolding weight_before
loop-k-init c = refl

pub overflow_add-total : goal.overflow_add-total
overflow_add-total c =
    let total_is =
    laws.weight_turn c.args.program c.loop-k.k c.loop-k.invariant c.loop-k-test.true c.instruction_at-instruction.ensures c.weight_of-total.ensures in
    omega (arith, total_is, laws.room c.args.program c.loop-k.k (search rules))

pub loop-k-preserved : goal.loop-k-preserved
loop-k-preserved c =
    laws.weight_turn c.args.program c.loop-k.k c.loop-k.invariant c.loop-k-test.true c.instruction_at-instruction.ensures c.weight_of-total.ensures
