use Rattle.std.proofs.Common.{◌+◌, arith}
use Rattle.allowance.specs.Allowing.{total}
use Rattle.allowance.proofs.Fours.{total_more, total_part, total_all, left_some, left_none}
use Rattle.allowance.proofs.left_of.Goals as goal

pub loop-n-init : goal.loop-n-init
unfolding total
loop-n-init c = omega arith

pub returns-then-left-n : goal.returns-then-left-n
returns-then-left-n c =
    let l = c.args.taken in
    let i = c.loop-n.n-index in
    left_none _ _ (omega (arith, c.loop-n.invariant, total_more l i (omega arith), total_part l (i + 1)))

pub loop-n-preserved : goal.loop-n-preserved
loop-n-preserved c =
    omega (arith, c.loop-n.invariant, total_more c.args.taken c.loop-n.n-index (omega arith))

pub returns : goal.returns
returns c = left_some _ _ (omega (arith, c.loop-n.invariant, total_all c.args.taken c.loop-n.n-index (omega arith)))
