use Rattle.std.proofs.Common.{◌≡◌, drop}
use Rattle.allowance.specs.Opening.{are_ordered}
use Rattle.allowance.proofs.are_ordered.Given as goal

abbrev pub invariant-loop-q : goal.invariant-loop-q
invariant-loop-q l = are_ordered l.fn.quotas ≡ are_ordered (drop l.q-index l.fn.quotas)
