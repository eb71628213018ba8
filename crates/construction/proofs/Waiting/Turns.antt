-- Within p numbers of the gate it is each process's turn (line C1).
use Prim.Native.Nat.{ℕ, suc, ◌+◌, ◌*◌, ◌/◌, ◌%◌, ◌≤◌, ◌<◌}
use mathlib.Core.Path.{◌≡◌, ◌∙◌}
use native.Mathlib.Omega.{arith}
use native.Mathlib.Decide.{dec_lt}
use native.Mathlib.Nat.{mod-lt, mod-eq_of_lt, add-mul-mod_self_right, div-add-mod'}
use borrow.Author.Tests.{lt-ltb}
use Rattle.construction.specs.Machine.{first_choice}

-- a number after k, at most p later, at which it is the turn of process i
pub record Turn (p k i : ℕ) : Type 0 where
  pub number : ℕ
  pub after : k < number
  pub near : number ≤ k + p
  pub own : first_choice number p ≡ i

own_turn : (p q i : ℕ) → i < p → first_choice (i + q * p) p ≡ i
unfolding first_choice
own_turn p q i lt = rw (lt-ltb 0 p (omega arith)) (add-mul-mod_self_right i q p ∙ mod-eq_of_lt lt)

-- k is the r-th of the numbers from q * p on
turn_from : (p q r k i : ℕ) → q * p + r ≡ k → r < p → i < p → Dec (r < i) → Turn p k i
turn_from p q r k i e rl lt (yes h) =
    record { number = i + q * p; after = omega arith; near = omega arith; own = own_turn p q i lt }
turn_from p q r k i e rl lt (no h) =
    record { number = i + suc q * p; after = omega arith; near = omega arith; own = own_turn p (suc q) i lt }

pub turn_after : (p k i : ℕ) → i < p → Turn p k i
turn_after p k i lt = turn_from p (k / p) (k % p) k i (div-add-mod' k p) (mod-lt k (omega arith)) lt (dec_lt (k % p) i)
