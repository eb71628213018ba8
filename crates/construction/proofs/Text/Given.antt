-- What code gives of a reading says of it
use Rattle.std.specs.Prelude.{Ok, Err}
use mathlib.Core.Path.{◌≡◌, refl, ap}
use Rattle.grammar.proofs.Cases.{clash}
use Rattle.construction.specs.Types.{Verdict, RefusedAt}
use Rattle.construction.specs.Readings.{given, verdict_of}

pub given_ok : {T : Type 0} (v : Verdict) (y : T) {x : T} → Ok x ≡ given v y → (v ≡ Ok tt) × (x ≡ y)
given_ok (Ok _) y e = (refl, cc)
given_ok (Err w) y e = clash (cc)

pub given_err : {T : Type 0} (v : Verdict) (y : T) {w : RefusedAt} → Err w ≡ given v y → v ≡ Err w
given_err (Ok _) y e = clash (cc)
given_err (Err z) y {w} e = let q : z ≡ w = cc in ap Err q

pub verdict_given : {T : Type 0} (v : Verdict) (y : T) → verdict_of (given v y) ≡ v
verdict_given (Ok _) y = refl
verdict_given (Err w) y = refl
