-- A change that is judged, with what was read of its text: what was read where it is taken, and else why it is refused
use Rattle.std.specs.Prelude.{Result, Ok, Err, IfOk, IsOk}
use Rattle.std.specs.Result.{result_and}
use mathlib.Core.Path.{◌≡◌}
use native.Mathlib.Omega.{arith}
use Rattle.construction.specs.Types.{Verdict}
use Rattle.construction.specs.declared.texts.RefusedAt.{RefusedAt}
use Rattle.construction.specs.Readings.{verdict_of}
use Rattle.requests.specs.Judging.{answer_of_change}

module _ {T : Type 0} where
  pub judged_with : (v : Verdict) (q : Result T RefusedAt) → IfOk v (λ _. IsOk q) → answer_of_change (verdict_of (result_and v q)) ≡ answer_of_change v
  judged_with v q p = grind arith

  pub taken_with : (v : Verdict) (q : Result T RefusedAt) → IfOk (result_and v q) (λ x. q ≡ Ok x)
  taken_with v q = grind arith
