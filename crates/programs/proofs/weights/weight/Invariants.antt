use Rattle.std.proofs.Common.{◌≡◌}
use Rattle.construction.specs.Weight.{weight_before}
use Rattle.programs.proofs.weights.weight.Given as goal

abbrev pub invariant-loop-k : goal.invariant-loop-k
invariant-loop-k l = l.total ≡ weight_before l.program l.k
