use Rattle.std.proofs.Common.{◌≤◌, ◌≡◌, drop}
use Rattle.construction.specs.Weight.{heaviest}
use Rattle.programs.proofs.weights.heaviest.Given as goal

abbrev pub invariant-loop-k : goal.invariant-loop-k
invariant-loop-k l = (l.most ≡ heaviest (drop l.k l.programs)) × (l.k ≤ 8)
