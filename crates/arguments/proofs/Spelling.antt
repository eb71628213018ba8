-- An argument is taken exactly where it is the decimal of a number of 64 bits.
use Prim.Native.Nat.{ℕ, suc, ◌+◌, ◌-◌, ◌/◌, ◌%◌, ◌<◌, ◌≤◌}
use mathlib.Core.Path.{◌≡◌, refl, sym, ◌∙◌, ap}
use mathlib.Core.Bool.{Bool, true, false, ◌&&◌}
use mathlib.Core.List.{List, [], ◌∷◌, ◌++◌, append_assoc, append-nil}
use native.Mathlib.Omega.{arith}
use native.Mathlib.Decide.{dec_lt}
use lib.Dec.{eqb, ltb}
use lib.ListN.{length, get_or, length-append, get_or-append}
use lib.Seq.{append_snoc}
use borrow.Author.Tests.{lt-ltb, le-ltb, le-leb, ne_eqb}
use Rattle.grammar.specs.Writing.{decimal, largest}
use Rattle.grammar.proofs.Cases.{on_test, clash}
use Rattle.grammar.proofs.Decimals.{decimal_one, decimal_more, decimal_step, decimal_induction}
use Rattle.std.specs.Prelude.{Option, Some, None}
use Rattle.arguments.specs.Arguments.{grown, fits, digits_of, begins_wrong, argument_of}
use Rattle.arguments.proofs.Digits.{fit_bounds}

-- ---- what is taken stands there as it is written
digits_text : (xs : List ℕ) (v w : ℕ) → 0 < v → v ≤ largest → digits_of v xs ≡ Some w → (decimal v ++ xs ≡ decimal w) × (w ≤ largest)
unfolding digits_of
digits_text [] v w p l = λ e. let z : v ≡ w = cc in (append-nil (decimal v) ∙ ap decimal z, omega arith)
digits_text (x ∷ xs) v w p l =
    on_test (λ (a : Option ℕ). a ≡ Some w → (decimal v ++ (x ∷ xs) ≡ decimal w) × (w ≤ largest)) (fits v x)
    (λ f e. let h = fit_bounds v x f in
    let y : 48 + (x - 48) ≡ x = omega arith in
    let r = digits_text xs (grown v x) w (omega arith) (omega arith) e in
    let s : decimal (grown v x) ≡ decimal v ++ (x ∷ []) = decimal_step v (x - 48) p (omega arith) ∙ ap (λ (b : ℕ). decimal v ++ (b ∷ [])) y in
    (sym (append_snoc (decimal v) x xs) ∙ ap (λ (l : List ℕ). l ++ xs) (sym s) ∙ r.0, r.1))
    (λ f e. clash (cc))

first_text : (x : ℕ) (xs : List ℕ) (n : ℕ) → (0 < length xs → x ≡ 48 → ⊥) → digits_of 0 (x ∷ xs) ≡ Some n → (x ∷ xs ≡ decimal n) × (n ≤ largest)
unfolding digits_of
first_text x xs n other =
    on_test (λ (a : Option ℕ). a ≡ Some n → (x ∷ xs ≡ decimal n) × (n ≤ largest)) (fits 0 x)
    (λ f. go xs other (fit_bounds 0 x f))
    (λ f e. clash (cc))
  where
    one : (48 ≤ x) × (x ≤ 57) × (grown 0 x ≤ largest) → decimal (grown 0 x) ≡ x ∷ []
    one h = let y : 48 + (grown 0 x) ≡ x = omega arith in decimal_one (grown 0 x) (omega arith) ∙ ap (λ (b : ℕ). b ∷ []) y

    go :
        (xs : List ℕ) → (0 < length xs → x ≡ 48 → ⊥) → (48 ≤ x) × (x ≤ 57) × (grown 0 x ≤ largest) → digits_of (grown 0 x) xs ≡ Some n →
        (x ∷ xs ≡ decimal n) × (n ≤ largest)
    go [] other h e = let z : grown 0 x ≡ n = cc in (sym (one h) ∙ ap decimal z, omega arith)
    go (y ∷ ys) other h e =
        let above : x ≡ 48 → ⊥ = other (omega arith) in
        let r = digits_text (y ∷ ys) (grown 0 x) n (omega arith) (omega arith) e in
        (ap (λ (l : List ℕ). l ++ (y ∷ ys)) (sym (one h)) ∙ r.0, r.1)

pub argument_only : (t : List ℕ) (n : ℕ) → argument_of t ≡ Some n → (t ≡ decimal n) × (n ≤ largest)
unfolding argument_of
argument_only [] n = λ e. clash (cc)
argument_only (x ∷ xs) n =
    on_test (λ (a : Option ℕ). a ≡ Some n → (x ∷ xs ≡ decimal n) × (n ≤ largest)) (begins_wrong (x ∷ xs))
    (λ _ e. clash (cc))
    (λ f e. first_text x xs n
    (λ l q. let z : begins_wrong (x ∷ xs) ≡ true = rw (le-ltb (suc (length xs)) 1 (omega arith), q, lt-ltb 1 (suc (length xs)) (omega arith)) in
    clash (cc))
    e)

-- ---- every decimal of 64 bits is taken
digits_cons : (v w x : ℕ) (xs : List ℕ) → 48 ≤ x → x ≤ 57 → w ≡ grown v x → w ≤ largest → digits_of v (x ∷ xs) ≡ digits_of w xs
unfolding digits_of
digits_cons v w x xs p q e l = let k : grown v x ≤ largest = omega arith in rw (le-leb 48 x p, le-leb x 57 q, le-leb (grown v x) largest k, e)

digits_read : (n : ℕ) → n ≤ largest → (r : List ℕ) → digits_of 0 (decimal n ++ r) ≡ digits_of n r
digits_read = decimal_induction (λ n. n ≤ largest → (r : List ℕ) → digits_of 0 (decimal n ++ r) ≡ digits_of n r) one more
  where
    one : (n : ℕ) → n < 10 → n ≤ largest → (r : List ℕ) → digits_of 0 (decimal n ++ r) ≡ digits_of n r
    one n p l r = rw (decimal_one n p) (digits_cons 0 n (48 + n) r (omega arith) (omega arith) (omega arith) l)

    more : (n : ℕ) → 10 ≤ n → (n / 10 ≤ largest → (r : List ℕ) → digits_of 0 (decimal (n / 10) ++ r) ≡ digits_of (n / 10) r) → n ≤ largest → (r : List ℕ) →
        digits_of 0 (decimal n ++ r) ≡ digits_of n r
    more n p ih l r =
        rw (decimal_more n p)
        (ap (λ (t : List ℕ). digits_of 0 t) (append_assoc (decimal (n / 10)) ((48 + n % 10) ∷ []) r)
        ∙ ih (omega arith) ((48 + n % 10) ∷ r)
        ∙ digits_cons (n / 10) n (48 + n % 10) r (omega arith) (omega arith) (omega arith) l)

-- no decimal begins wrong: one byte, or a first one above `0`
record Begins (t : List ℕ) (n : ℕ) : Type 0 where
  some : 0 < length t
  few : n < 10 → length t ≡ 1
  first : 0 < n → 48 < get_or t 0 0

begins : (n : ℕ) → Begins (decimal n) n
begins = decimal_induction (λ n. Begins (decimal n) n) one more
  where
    one : (n : ℕ) → n < 10 → Begins (decimal n) n
    one n p = rw (decimal_one n p) (record { some = omega arith; few = λ _. refl; first = λ l. omega arith })

    more : (n : ℕ) → 10 ≤ n → Begins (decimal (n / 10)) (n / 10) → Begins (decimal n) n
    more n p b =
        let s = b.some in
        let f = b.first (omega arith) in
        rw (decimal_more n p)
        (record {
          some = omega (arith, length-append (decimal (n / 10)) ((48 + n % 10) ∷ []));
          few = λ l. absurd (omega arith);
          first = λ _. rw (get_or-append (decimal (n / 10)) ((48 + n % 10) ∷ []) 0 0 s) f;
        })

not_wrong : (t : List ℕ) (n : ℕ) → Begins t n → begins_wrong t ≡ false
not_wrong t n b = let s = b.some in rw (le-ltb (length t) 1 (omega arith)) (go (dec_lt n 10))
  where
    only : (a : Bool) → a && false ≡ false
    only true = refl
    only false = refl

    go : Dec (n < 10) → eqb (get_or t 0 0) 48 && ltb 1 (length t) ≡ false
    go (yes p) = rw (b.few p) (only (eqb (get_or t 0 0) 48))
    go (no p) = let f = b.first (omega arith) in rw (ne_eqb (get_or t 0 0) 48 (λ (q : get_or t 0 0 ≡ 48). omega arith))

pub argument_reads : (n : ℕ) → n ≤ largest → argument_of (decimal n) ≡ Some n
unfolding argument_of digits_of
argument_reads n l =
    rw (not_wrong (decimal n) n (begins n)) (ap (λ (t : List ℕ). digits_of 0 t) (sym (append-nil (decimal n))) ∙ digits_read n l [])
