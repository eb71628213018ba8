-- Arrays compared item by item, and a test of each number of a range, as a test of every number below n
use Prim.Native.Nat.{ℕ, zero, suc, ◌+◌}
use mathlib.Core.Bool.{Bool, ◌&&◌}
use mathlib.Core.Path.{◌≡◌, refl, sym, ap, ◌∙◌}
use mathlib.Core.List.{List, [], ◌∷◌}
use lib.ListN.{length, get_or}
use lib.Dec.{eqb}
use borrow.Author.Tests.{eq-eqb, ne_eqb}
use lib.Pointwise.{pointwise}
use native.Mathlib.Nat.{suc_inj, suc-ne-zero}
use Rattle.std.proofs.Common.{arith}
use Rattle.std.specs.List.{list_all, range_with_len, zip}
use Rattle.std.proofs.Math.Bool.{and_assoc, and-true}
use Rattle.report.specs.Same.{all_below}

-- the first test, and those after it
first : (n : ℕ) (test : ℕ → Bool) → all_below (suc n) test ≡ (test 0 && all_below n (λ k. test (suc k)))
unfolding all_below
first zero test = sym (and-true (test 0))
first (suc n) test = ap (λ b. b && test (suc n)) (first n test) ∙ and_assoc (test 0) (all_below n (λ k. test (suc k))) (test (suc n))

-- lists of one length that are compared item by item
by_places :
    {A : Type 0} (E F : A → A → Bool) (d : A) → ((x y : A) → E x y ≡ F x y) → (xs ys : List A) → length xs ≡ length ys →
    pointwise E xs ys ≡ all_below (length xs) (λ k. F (get_or xs k d) (get_or ys k d))
unfolding all_below
by_places E F d same [] [] e = refl
by_places E F d same [] (y ∷ ys) e = elim (suc-ne-zero _ (sym e)) [ ]
by_places E F d same (x ∷ xs) [] e = elim (suc-ne-zero _ e) [ ]
by_places E F d same (x ∷ xs) (y ∷ ys) e =
    rw (same x y, by_places E F d same xs ys (suc_inj e)) (sym (first (length xs) (λ k. F (get_or (x ∷ xs) k d) (get_or (y ∷ ys) k d))))

-- the same for arrays of n
pub arrays :
    {A : Type 0} (E F : A → A → Bool) (d : A) → ((x y : A) → E x y ≡ F x y) → (xs ys : List A) (n : ℕ) → length xs ≡ n → length ys ≡ n →
    pointwise E xs ys ≡ all_below n (λ k. F (get_or xs k d) (get_or ys k d))
arrays E F d same xs ys n p q = rw (sym p) (by_places E F d same xs ys (p ∙ sym q))

-- the same for arrays whose items are compared in pairs
zipped :
    {A : Type 0} (F : A → A → Bool) → (xs ys : List A) → length xs ≡ length ys → list_all (λ (p : A × A). F p.0 p.1) (zip xs ys) ≡ pointwise F xs ys
zipped F [] [] e = refl
zipped F [] (y ∷ ys) e = elim (suc-ne-zero _ (sym e)) [ ]
zipped F (x ∷ xs) [] e = elim (suc-ne-zero _ e) [ ]
zipped F (x ∷ xs) (y ∷ ys) e = ap (λ b. F x y && b) (zipped F xs ys (suc_inj e))

pub pairs :
    {A : Type 0} (F : A → A → Bool) (d : A) (xs ys : List A) (n : ℕ) → length xs ≡ n → length ys ≡ n →
    list_all (λ (p : A × A). F p.0 p.1) (zip xs ys) ≡ all_below n (λ k. F (get_or xs k d) (get_or ys k d))
pairs F d xs ys n p q = zipped F xs ys (p ∙ sym q) ∙ arrays F F d (λ x y. refl) xs ys n p q

-- a test of two numbers and another test
pub alike : {m n : ℕ} {this test : Bool} → m ≡ n → this ≡ test → this ≡ (eqb m n && test)
alike {m} {n} {this} {test} e p = rw (eq-eqb m n e, p)

pub unlike : (m n : ℕ) (test : Bool) → (m ≡ n → ⊥) → eqb m n ≡ (eqb m n && test)
unlike m n test h = rw (ne_eqb m n h)

-- a test of each number of a range
ranged : (n a : ℕ) (test below : ℕ → Bool) → ((k : ℕ) → test (a + k) ≡ below k) → list_all test (range_with_len a n) ≡ all_below n below
unfolding all_below
ranged zero a test below same = refl
ranged (suc n) a test below same =
    let here : test a ≡ below 0 = (let e : a ≡ a + 0 = omega arith in ap test e) ∙ same 0 in
    let later : (k : ℕ) → test (a + 1 + k) ≡ below (suc k) = λ k. (let e : a + 1 + k ≡ a + suc k = omega arith in ap test e) ∙ same (suc k) in
    rw (here, ranged n (a + 1) test (λ k. below (suc k)) later) (sym (first n below))

pub range : (n : ℕ) (test : ℕ → Bool) → list_all test (range_with_len 0 n) ≡ all_below n test
range n test = ranged n 0 test test (λ k. (let e : 0 + k ≡ k = omega arith in ap test e))
