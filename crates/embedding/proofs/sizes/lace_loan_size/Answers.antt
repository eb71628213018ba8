use Rattle.std.proofs.Common.{arith}
use Rattle.embedding.proofs.Sizing as sizing
use Rattle.embedding.proofs.sizes.lace_loan_size.Goals as goal

pub returns-then-processes-gt8 : goal.returns-then-processes-gt8
returns-then-processes-gt8 c = sizing.many _ _ c.if-processes-gt8.true

pub returns-then-weight-gt32 : goal.returns-then-weight-gt32
returns-then-weight-gt32 c = sizing.heavy _ _ c.if-weight-gt32.true

pub returns : goal.returns
returns c = sizing.inside _ _ (omega arith) (omega arith)
