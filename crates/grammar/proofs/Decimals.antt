-- The digits of a number.
use mathlib.Core.Bool.{Bool, true, false, cond}
use mathlib.Core.Path.{◌≡◌, refl, ◌∙◌, ap}
use mathlib.Core.List.{List, [], ◌∷◌, ◌++◌}
use Prim.Native.Nat.{ℕ, zero, suc, ◌+◌, ◌*◌, ◌/◌, ◌%◌, ◌<◌, ◌≤◌}
use lib.Dec.{ltb}
use native.Mathlib.Omega.{arith}
use borrow.Author.Tests.{lt-ltb, le-ltb, ltb-true, ltb-false}
use Rattle.grammar.specs.Writing.{decimals, decimal}

-- more than enough fuel changes nothing
fuel : (f g n : ℕ) → n < f → n < g → decimals f n ≡ decimals g n
unfolding decimals
fuel zero g n p q = absurd (omega arith)
fuel (suc f) zero n p q = absurd (omega arith)
fuel (suc f) (suc g) n p q = go (λ u v. fuel f g (n / 10) u v) (ltb n 10) refl
  where
    go : (n / 10 < f → n / 10 < g → decimals f (n / 10) ≡ decimals g (n / 10)) → (b : Bool) → ltb n 10 ≡ b →
        cond b ((48 + n) ∷ []) (decimals f (n / 10) ++ ((48 + n % 10) ∷ [])) ≡ cond b ((48 + n) ∷ []) (decimals g (n / 10) ++ ((48 + n % 10) ∷ []))
    go h true e = refl
    go h false e = ap (λ (l : List ℕ). l ++ ((48 + n % 10) ∷ [])) (h (omega (arith, ltb-false n 10 e)) (omega (arith, ltb-false n 10 e)))

pub decimal_one : (n : ℕ) → n < 10 → decimal n ≡ (48 + n) ∷ []
unfolding decimal decimals
decimal_one n h = rw (lt-ltb n 10 h)

first_digits : (n : ℕ) → 10 ≤ n → decimals (suc n) n ≡ decimals n (n / 10) ++ ((48 + n % 10) ∷ [])
unfolding decimals
first_digits n h = rw (le-ltb n 10 h)

pub decimal_more : (n : ℕ) → 10 ≤ n → decimal n ≡ decimal (n / 10) ++ ((48 + n % 10) ∷ [])
unfolding decimal
decimal_more n h = first_digits n h ∙ ap (λ (l : List ℕ). l ++ ((48 + n % 10) ∷ [])) (fuel n (suc (n / 10)) (n / 10) (omega arith) (omega arith))

pub decimal_step : (v d : ℕ) → 0 < v → d < 10 → decimal (v * 10 + d) ≡ decimal v ++ ((48 + d) ∷ [])
decimal_step v d p q =
    let a : (v * 10 + d) / 10 ≡ v = omega arith in
    let b : (v * 10 + d) % 10 ≡ d = omega arith in
    decimal_more (v * 10 + d) (omega arith) ∙ rw (a, b)

-- what holds of the numbers of one digit, and of a number if of a tenth of it, holds of all
pub decimal_induction {κ} : (P : ℕ → Type κ) → ((n : ℕ) → n < 10 → P n) → ((n : ℕ) → 10 ≤ n → P (n / 10) → P n) → (n : ℕ) → P n
decimal_induction P one more n = go (suc n) n (omega arith)
  where
    go : (f n : ℕ) → n < f → P n
    go zero n h = absurd (omega arith)
    go (suc f) n h = by (ltb n 10) refl (λ p. go f (n / 10) p)
      where
        by : (b : Bool) → ltb n 10 ≡ b → (n / 10 < f → P (n / 10)) → P n
        by true e ih = one n (ltb-true n 10 e)
        by false e ih = let q = ltb-false n 10 e in more n q (ih (omega arith))
