-- The digits of an argument, one after the other.
use Prim.Native.Nat.{ℕ, ◌+◌, ◌-◌, ◌/◌, ◌<◌, ◌≤◌}
use mathlib.Core.Path.{◌≡◌, refl, sym, ◌∙◌}
use mathlib.Core.Bool.{Bool, true, false}
use mathlib.Core.List.{List}
use native.Mathlib.Numerals.{add-one}
use native.Mathlib.Omega.{arith}
use lib.Dec.{leb}
use lib.ListN.{length, get_or, drop, drop_of_length-le}
use lib.Seq.{drop-cons}
use borrow.Author.Tests.{le-leb, lt-leb, leb-true, leb-false}
use Rattle.grammar.proofs.Cases.{and_true}
use Rattle.grammar.proofs.Digits.{digit_true}
use Rattle.grammar.specs.Reading.{is_digit}
use Rattle.grammar.specs.Writing.{largest}
use Rattle.std.specs.Prelude.{Option, Some, None}
use Rattle.arguments.specs.Arguments.{grown, fits, digits_of, begins_wrong, argument_of}

-- a digit that fits
module _ (v x : ℕ) where
  pub fit_bounds : fits v x ≡ true → (48 ≤ x) × (x ≤ 57) × (grown v x ≤ largest)
  fit_bounds e =
      let p = and_true (is_digit x) (leb (grown v x) largest) e in
      let q = and_true (leb 48 x) (leb x 57) p.0 in
      (leb-true 48 x q.0, leb-true x 57 q.1, leb-true (grown v x) largest p.1)

-- the first k digits are read
pub record DigitsTo (t : List ℕ) (v k : ℕ) : Type 0 where
  pub rest : argument_of t ≡ digits_of v (drop k t)
  pub inside : k ≤ length t
  pub small : v ≤ largest

pub digits_none : (t : List ℕ) {e : Bool} → e ≡ begins_wrong t → e ≡ false → DigitsTo t 0 0
unfolding argument_of
digits_none t ee h = record { rest = rw (← ee, h) refl; inside = omega arith; small = omega arith }

pub no_digits : (t : List ℕ) {e : Bool} → e ≡ begins_wrong t → e ≡ true → None ≡ argument_of t
unfolding argument_of
no_digits t ee h = sym (rw (← ee, h) refl)

module _ {t : List ℕ} {v k : ℕ} (h : DigitsTo t v k) {x : ℕ} {f : Bool} (ex : x ≡ get_or t k 0) (ef : f ≡ fits v x) where
  pub digit_more : k < length t → f ≡ true → DigitsTo t (grown v x) (k + 1)
  unfolding digits_of
  digit_more below e =
      let q : fits v (get_or t k 0) ≡ true = rw ex at (sym ef) ∙ e in
      record {
        rest = h.rest ∙ rw (add-one, drop-cons t k 0 below, q, ex) refl;
        inside = omega arith;
        small = (fit_bounds v x (sym ef ∙ e)).2;
      }

  pub digit_wrong : k < length t → f ≡ false → None ≡ argument_of t
  unfolding digits_of
  digit_wrong below e =
      let q : fits v (get_or t k 0) ≡ false = rw ex at (sym ef) ∙ e in
      sym (h.rest ∙ rw (drop-cons t k 0 below, q) refl)

pub digits_all : {t : List ℕ} {v k : ℕ} → DigitsTo t v k → length t ≤ k → Some v ≡ argument_of t
unfolding digits_of
digits_all {t} {v} {k} h done = sym (h.rest ∙ rw (drop_of_length-le t {i = k} done) refl)
