-- Digits and decimals at a place.
use mathlib.Core.Bool.{Bool, true, false, cond}
use mathlib.Core.Path.{◌≡◌, refl, sym, ap, ◌∙◌}
use mathlib.Core.List.{List, [], ◌∷◌}
use Prim.Native.Nat.{ℕ, suc, ◌+◌, ◌<◌, ◌≤◌}
use lib.Dec.{eqb, leb}
use lib.ListN.{get_or, drop, length, drop_of_length-le, length-drop}
use lib.Seq.{drop-cons}
use native.Mathlib.Omega.{arith}
use native.Mathlib.Numerals.{add-one}
use borrow.Author.Tests.{eq-eqb, ne_eqb, le-leb, lt-leb, eqb-true, leb-true}
use Rattle.std.specs.Prelude.{Option, Some, None}
use Rattle.grammar.specs.declared.Found.{Found}
use Rattle.grammar.specs.Reading.{found, is_digit, grow, digits, number}
use Rattle.grammar.proofs.Cases.{on_test, and_true, clash}
use Rattle.grammar.proofs.Bytes.{inside}
use Rattle.grammar.proofs.Places.{same_next, same_found}

-- ---- one digit
pub digit_low : (x : ℕ) → x < 48 → false ≡ is_digit x
digit_low x p = rw (lt-leb 48 x p)

pub digit_not_low : (x : ℕ) → 48 ≤ x → leb x 57 ≡ is_digit x
digit_not_low x p = rw (le-leb 48 x p)

pub digit_true : (x : ℕ) → is_digit x ≡ true → (48 ≤ x) × (x ≤ 57)
digit_true x e = let h = and_true (leb 48 x) (leb x 57) e in (leb-true 48 x h.0, leb-true x 57 h.1)

pub digit_in : (x : ℕ) → 48 ≤ x → x ≤ 57 → is_digit x ≡ true
digit_in x p q = rw (le-leb 48 x p, le-leb x 57 q)

-- ---- digits, one by one
module _ (t : List ℕ) (i v : ℕ) where
  pub digits_step : i < length t → digits i v (drop i t) ≡ cond (is_digit (get_or t i 0)) (digits (suc i) (grow v (get_or t i 0)) (drop (suc i) t)) (found v i)
  unfolding digits
  digits_step h = rw (drop-cons t i 0 h)

  pub digits_more : {w : ℕ} {b : Bool} → i < length t → b ≡ is_digit (get_or t i 0) → b ≡ true → w ≡ grow v (get_or t i 0) →
      digits i v (drop i t) ≡ digits (i + 1) w (drop (i + 1) t)
  digits_more h d p e = digits_step h ∙ rw (← d, p, ← e, add-one)

  pub digits_stop : {b : Bool} → i < length t → b ≡ is_digit (get_or t i 0) → b ≡ false → digits i v (drop i t) ≡ found v i
  digits_stop h d p = digits_step h ∙ rw (← d, p)

  pub digits_end_lem : length t ≤ i → digits i v (drop i t) ≡ found v i
  unfolding digits
  digits_end_lem h = rw (drop_of_length-le t {i = i} h)

-- ---- a number ends within the text
pub digits_within : (l : List ℕ) (at v w j : ℕ) → digits at v l ≡ found w j → (at ≤ j) × (j ≤ at + length l)
unfolding digits
digits_within [] at v w j = λ e. let z = same_next e in omega arith
digits_within (x ∷ xs) at v w j =
    on_test (λ (z : Found ℕ). z ≡ found w j → (at ≤ j) × (j ≤ at + length (x ∷ xs))) (is_digit x)
    (λ h e. let r = digits_within xs (suc at) (grow v x) w j e in omega arith)
    (λ h e. let z = same_next e in omega arith)

pub number_within : (t : List ℕ) (at v i : ℕ) → number t at ≡ Some (found v i) → (at < i) × (i ≤ length t)
unfolding number
number_within t at v i =
    on_test (λ (z : Option (Found ℕ)). z ≡ Some (found v i) → (at < i) × (i ≤ length t)) (eqb (get_or t at 0) 48)
    (λ h e. let z = same_next (same_found e) in
    let l = inside t at _ refl (let q = eqb-true (get_or t at 0) 48 h in omega arith) in omega arith)
    (λ _. on_test (λ (z : Option (Found ℕ)). z ≡ Some (found v i) → (at < i) × (i ≤ length t)) (is_digit (get_or t at 0))
    (λ h e. let l : at < length t = inside t at _ refl (let q = digit_true (get_or t at 0) h in omega arith) in
    let d : digits (suc at) (grow 0 (get_or t at 0)) (drop (suc at) t) ≡ found v i = sym (digits_step t at 0 l ∙ rw h) ∙ same_found e in
    let r = digits_within (drop (suc at) t) (suc at) (grow 0 (get_or t at 0)) v i d in
    omega (arith, length-drop (suc at) t))
    (λ h e. clash (cc)))
