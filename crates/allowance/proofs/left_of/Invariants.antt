use Rattle.std.proofs.Common.{◌≡◌, ◌+◌, take}
use Rattle.allowance.specs.Allowing.{total}
use Rattle.allowance.proofs.left_of.Given as goal

abbrev pub invariant-loop-n : goal.invariant-loop-n
invariant-loop-n l = l.left + total (take l.n-index l.fn.taken) ≡ l.steps
