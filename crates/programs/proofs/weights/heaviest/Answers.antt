use Rattle.std.proofs.Common.{arith}
use Rattle.programs.proofs.Weighing as laws
use Rattle.programs.proofs.weights.heaviest.Goals as goal

pub loop-k-init : goal.loop-k-init
loop-k-init c = (laws.none_left c.args.programs 8 (omega arith), omega arith)

pub loop-k-preserved-then-most-one : goal.loop-k-preserved-then-most-one
loop-k-preserved-then-most-one c = (
  laws.heavier_more c.args.programs c.loop-k.k _ c.loop-k.invariant.0 c.loop-k-test.true (omega arith)
      c.weight-one.ensures c.if-most-one.true,
  omega arith,
)

pub loop-k-preserved : goal.loop-k-preserved
loop-k-preserved c = (
  laws.heavier_less c.args.programs c.loop-k.k _ c.loop-k.invariant.0 c.loop-k-test.true (omega arith)
      c.weight-one.ensures c.if-most-one.false,
  omega arith,
)
