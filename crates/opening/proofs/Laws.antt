-- What stands at a place of a list
use Prim.Native.Nat.{ℕ, zero, suc, ◌<◌}
use mathlib.Core.List.{List, [], ◌∷◌}
use mathlib.Core.Path.{◌≡◌, refl}
use native.Mathlib.Omega.{arith}
use lib.ListN.{length, get_or}

-- in the list the default does not matter
pub inside : {A : Type 0} (l : List A) (i : ℕ) (d e : A) → i < length l → get_or l i d ≡ get_or l i e
inside [] i d e p = absurd (omega arith)
inside (x ∷ l) zero d e p = refl
inside (x ∷ l) (suc i) d e p = inside l i d e (omega arith)
