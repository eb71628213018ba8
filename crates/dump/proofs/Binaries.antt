-- Binary numbers: what is written reads back with the place past it, and what was read stands in the text as it would be written.
use mathlib.Core.Bool.{Bool, true, false, cond}
use mathlib.Core.Path.{◌≡◌, refl, sym, ◌∙◌, ap}
use mathlib.Core.List.{List, [], ◌∷◌, ◌++◌, append_assoc}
use Prim.Native.Nat.{ℕ, zero, suc, ◌+◌, ◌-◌, ◌*◌, ◌/◌, ◌%◌, ◌<◌, ◌≤◌, min}
use lib.Dec.{eqb, leb, ltb}
use lib.ListN.{get_or, drop, length, length-append, length-drop, drop_of_length-le}
use lib.Seq.{drop-cons, drop-nil, drop-drop, append_snoc}
use native.Mathlib.Omega.{arith}
use native.Mathlib.Decide.{dec_lt}
use native.Mathlib.Numerals.{add-one}
use borrow.Author.Tests.{lt-ltb, le-ltb, ltb-true, ltb-false, eq-eqb, ne_eqb, eqb-true, le-leb, leb-true}
use Rattle.std.specs.Prelude.{Option, Some, None}
use Rattle.grammar.specs.declared.Found.{Found}
use Rattle.grammar.specs.Reading.{found}
use Rattle.grammar.proofs.Places.{same_value, same_next, same_found}
use Rattle.grammar.proofs.Cases.{on_test, and_true, clash}
use Rattle.grammar.proofs.Bytes.{inside, drop_head}
use Rattle.dump.specs.Binary.{binaries, binary, over, is_bit, grow_bit, bits, bits_at}

-- ---- the digits of a number
-- more than enough fuel changes nothing
fuel : (f g n : ℕ) → n < f → n < g → binaries f n ≡ binaries g n
unfolding binaries
fuel zero g n p q = absurd (omega arith)
fuel (suc f) zero n p q = absurd (omega arith)
fuel (suc f) (suc g) n p q = go (λ u v. fuel f g (n / 2) u v) (ltb n 2) refl
  where
    go : (n / 2 < f → n / 2 < g → binaries f (n / 2) ≡ binaries g (n / 2)) → (b : Bool) → ltb n 2 ≡ b →
        cond b ((48 + n) ∷ []) (binaries f (n / 2) ++ ((48 + n % 2) ∷ [])) ≡ cond b ((48 + n) ∷ []) (binaries g (n / 2) ++ ((48 + n % 2) ∷ []))
    go h true e = refl
    go h false e = ap (λ (l : List ℕ). l ++ ((48 + n % 2) ∷ [])) (h (omega (arith, ltb-false n 2 e)) (omega (arith, ltb-false n 2 e)))

pub binary_one : (n : ℕ) → n < 2 → binary n ≡ (48 + n) ∷ []
unfolding binary binaries
binary_one n h = rw (lt-ltb n 2 h)

first_bits : (n : ℕ) → 2 ≤ n → binaries (suc n) n ≡ binaries n (n / 2) ++ ((48 + n % 2) ∷ [])
unfolding binaries
first_bits n h = rw (le-ltb n 2 h)

pub binary_more : (n : ℕ) → 2 ≤ n → binary n ≡ binary (n / 2) ++ ((48 + n % 2) ∷ [])
unfolding binary
binary_more n h = first_bits n h ∙ ap (λ (l : List ℕ). l ++ ((48 + n % 2) ∷ [])) (fuel n (suc (n / 2)) (n / 2) (omega arith) (omega arith))

binary_step : (v d : ℕ) → 0 < v → d < 2 → binary (v * 2 + d) ≡ binary v ++ ((48 + d) ∷ [])
binary_step v d p q =
    let a : (v * 2 + d) / 2 ≡ v = omega arith in
    let b : (v * 2 + d) % 2 ≡ d = omega arith in
    binary_more (v * 2 + d) (omega arith) ∙ rw (a, b)

-- what holds of 0 and 1, and of a number if of half of it, holds of all
binary_induction {κ} : (P : ℕ → Type κ) → ((n : ℕ) → n < 2 → P n) → ((n : ℕ) → 2 ≤ n → P (n / 2) → P n) → (n : ℕ) → P n
binary_induction P one more n = go (suc n) n (omega arith)
  where
    go : (f n : ℕ) → n < f → P n
    go zero n h = absurd (omega arith)
    go (suc f) n h = by (ltb n 2) refl (λ p. go f (n / 2) p)
      where
        by : (b : Bool) → ltb n 2 ≡ b → (n / 2 < f → P (n / 2)) → P n
        by true e ih = one n (ltb-true n 2 e)
        by false e ih = let q = ltb-false n 2 e in more n q (ih (omega arith))

-- at most 32 digits
abbrev twos : ℕ → ℕ
twos zero = 2
twos (suc k) = twos k * 2

bits_few : (k n : ℕ) → n < twos k → length (binary n) ≤ suc k
bits_few zero n h = rw (binary_one n h) (omega arith)
bits_few (suc k) n h = go (λ l. bits_few k (n / 2) l) (ltb n 2) refl
  where
    go : (n / 2 < twos k → length (binary (n / 2)) ≤ suc k) → (b : Bool) → ltb n 2 ≡ b → length (binary n) ≤ suc (suc k)
    go f true e = rw (binary_one n (ltb-true n 2 e)) (omega arith)
    go f false e = rw (binary_more n (ltb-false n 2 e), length-append) (let l = f (omega arith) in omega arith)

pub binary_short : (n : ℕ) → n < over → length (binary n) ≤ 32
binary_short n h = bits_few 31 n (omega arith)

-- ---- one digit
pub bit_true : (x : ℕ) → is_bit x ≡ true → (48 ≤ x) × (x ≤ 49)
bit_true x e = let h = and_true (leb 48 x) (leb x 49) e in (leb-true 48 x h.0, leb-true x 49 h.1)

pub bit_in : (x : ℕ) → 48 ≤ x → x ≤ 49 → is_bit x ≡ true
bit_in x p q = rw (le-leb 48 x p, le-leb x 49 q)

-- ---- digits, one by one
module _ (t : List ℕ) (i v : ℕ) where
  bits_step : i < length t → bits i v (drop i t) ≡ cond (is_bit (get_or t i 0)) (bits (suc i) (grow_bit v (get_or t i 0)) (drop (suc i) t)) (found v i)
  unfolding bits
  bits_step h = rw (drop-cons t i 0 h)

  pub bits_more : {w : ℕ} {b : Bool} → i < length t → b ≡ is_bit (get_or t i 0) → b ≡ true → w ≡ grow_bit v (get_or t i 0) →
      bits i v (drop i t) ≡ bits (i + 1) w (drop (i + 1) t)
  bits_more h d p e = bits_step h ∙ rw (← d, p, ← e, add-one)

  pub bits_stop : {b : Bool} → i < length t → b ≡ is_bit (get_or t i 0) → b ≡ false → bits i v (drop i t) ≡ found v i
  bits_stop h d p = bits_step h ∙ rw (← d, p)

  pub bits_end : length t ≤ i → bits i v (drop i t) ≡ found v i
  unfolding bits
  bits_end h = rw (drop_of_length-le t {i = i} h)

-- ---- a number ends within the text
bits_within : (l : List ℕ) (at v w j : ℕ) → bits at v l ≡ found w j → (at ≤ j) × (j ≤ at + length l)
unfolding bits
bits_within [] at v w j = λ e. let z = same_next e in omega arith
bits_within (x ∷ xs) at v w j =
    on_test (λ (z : Found ℕ). z ≡ found w j → (at ≤ j) × (j ≤ at + length (x ∷ xs))) (is_bit x)
    (λ h e. let r = bits_within xs (suc at) (grow_bit v x) w j e in omega arith)
    (λ h e. let z = same_next e in omega arith)

pub bits_at-within : (t : List ℕ) (at v i : ℕ) → bits_at t at ≡ Some (found v i) → (at < i) × (i ≤ length t)
unfolding bits_at
bits_at-within t at v i =
    on_test (λ (z : Option (Found ℕ)). z ≡ Some (found v i) → (at < i) × (i ≤ length t)) (eqb (get_or t at 0) 48)
    (λ h e. let z = same_next (same_found e) in
    let l = inside t at _ refl (let q = eqb-true (get_or t at 0) 48 h in omega arith) in omega arith)
    (λ _. on_test (λ (z : Option (Found ℕ)). z ≡ Some (found v i) → (at < i) × (i ≤ length t)) (eqb (get_or t at 0) 49)
    (λ h e. one_case (eqb-true (get_or t at 0) 49 h) e)
    (λ h e. clash (cc)))
  where
    one_case : get_or t at 0 ≡ 49 → Some (bits at 0 (drop at t)) ≡ Some (found v i) → (at < i) × (i ≤ length t)
    one_case q e =
        let l : at < length t = inside t at _ refl (omega arith) in
        let h : is_bit (get_or t at 0) ≡ true = rw q in
        let d : bits (suc at) (grow_bit 0 (get_or t at 0)) (drop (suc at) t) ≡ found v i = sym (bits_step t at 0 l ∙ rw h) ∙ same_found e in
        let r = bits_within (drop (suc at) t) (suc at) (grow_bit 0 (get_or t at 0)) v i d in
        omega (arith, length-drop (suc at) t)

-- ---- what is written reads back
bits_cons : (at v w x : ℕ) (xs : List ℕ) → is_bit x ≡ true → w ≡ grow_bit v x → bits at v (x ∷ xs) ≡ bits (suc at) w xs
unfolding bits
bits_cons at v w x xs d e = rw (d, e)

bits_none : (at v : ℕ) (r : List ℕ) → is_bit (get_or r 0 0) ≡ false → bits at v r ≡ found v at
unfolding bits
bits_none at v [] e = refl
bits_none at v (x ∷ xs) e = rw e

bits_reads : (at v : ℕ) (r : List ℕ) → bits at 0 (binary v ++ r) ≡ bits (at + length (binary v)) (min over v) r
bits_reads at v r = binary_induction (λ n. (r : List ℕ) → bits at 0 (binary n ++ r) ≡ bits (at + length (binary n)) (min over n) r) one more v r
  where
    one : (n : ℕ) → n < 2 → (r : List ℕ) → bits at 0 (binary n ++ r) ≡ bits (at + length (binary n)) (min over n) r
    one n p r =
        let k : suc at ≡ at + 1 = omega arith in
        rw (binary_one n p)
        (bits_cons at 0 (min over n) (48 + n) r (bit_in (48 + n) (omega arith) (omega arith)) (omega arith) ∙ ap (λ (m : ℕ). bits m (min over n) r) k)

    more :
        (n : ℕ) → 2 ≤ n → ((r : List ℕ) → bits at 0 (binary (n / 2) ++ r) ≡ bits (at + length (binary (n / 2))) (min over (n / 2)) r) →
        (r : List ℕ) → bits at 0 (binary n ++ r) ≡ bits (at + length (binary n)) (min over n) r
    more n p ih r =
        let d : ℕ = 48 + n % 2 in
        let x : List ℕ = binary (n / 2) in
        let k : suc (at + length x) ≡ at + length (x ++ (d ∷ [])) = omega (arith, length-append x (d ∷ [])) in
        rw (binary_more n p)
        (ap (λ (l : List ℕ). bits at 0 l) (append_assoc x (d ∷ []) r)
        ∙ ih (d ∷ r)
        ∙ bits_cons (at + length x) (min over (n / 2)) (min over n) d r (bit_in d (omega arith) (omega arith)) (omega arith)
        ∙ ap (λ (m : ℕ). bits m (min over n) r) k)

-- a number other than 0 begins with `1`
record Leading (v : ℕ) : Type 0 where
  others : List ℕ
  shape : binary v ≡ 49 ∷ others

leading : (v : ℕ) → 0 < v → Leading v
leading = binary_induction (λ n. 0 < n → Leading n) one more
  where
    one : (n : ℕ) → n < 2 → 0 < n → Leading n
    one n p q = let e : n ≡ 1 = omega arith in record { others = []; shape = binary_one n p ∙ rw e }

    more : (n : ℕ) → 2 ≤ n → (0 < n / 2 → Leading (n / 2)) → 0 < n → Leading n
    more n p ih q =
        let l = ih (omega arith) in
        record {
          others = l.others ++ ((48 + n % 2) ∷ []);
          shape = binary_more n p ∙ ap (λ (x : List ℕ). x ++ ((48 + n % 2) ∷ [])) l.shape;
        }

pub bits_at-reads : (t : List ℕ) (at v : ℕ) (r : List ℕ) → is_bit (get_or r 0 0) ≡ false → drop at t ≡ binary v ++ r →
    bits_at t at ≡ Some (found (min over v) (at + length (binary v)))
unfolding bits_at
bits_at-reads t at v r d e = go (dec_lt 0 v)
  where
    go : Dec (0 < v) → bits_at t at ≡ Some (found (min over v) (at + length (binary v)))
    go (yes p) =
        let l = leading v p in
        let f = drop_head t at 49 (l.others ++ r) (e ∙ ap (λ (x : List ℕ). x ++ r) l.shape) in
        let b : get_or t at 0 ≡ 49 = f.byte in
        rw b
        (ap Some (ap (λ (x : List ℕ). bits at 0 x) e ∙ bits_reads at v r ∙ bits_none (at + length (binary v)) (min over v) r d))
    go (no p) =
        let z : v ≡ 0 = omega arith in
        let o : binary v ≡ 48 ∷ [] = ap binary z ∙ binary_one 0 (omega arith) in
        let f = drop_head t at 48 r (e ∙ ap (λ (x : List ℕ). x ++ r) o) in
        let k : suc at ≡ at + 1 = omega arith in
        rw (eq-eqb (get_or t at 0) 48 f.byte, o, z, k)

-- ---- what was read stands there as it is written: a number of any length, which was kept at `over` if it is larger
-- the digits after those of u
record BitsStanding (u : ℕ) (l : List ℕ) (at w j : ℕ) : Type 0 where
  value : ℕ
  kept : w ≡ min over value
  there : binary u ++ l ≡ binary value ++ drop (j - at) l

bits_text : (l : List ℕ) (at v w j u : ℕ) → 0 < u → v ≡ min over u → bits at v l ≡ found w j → BitsStanding u l at w j
unfolding bits
bits_text [] at v w j u p q = λ e. let z = same_value e in record { value = u; kept = omega arith; there = rw (drop-nil (j - at)) }
bits_text (x ∷ xs) at v w j u p q =
    on_test (λ (z : Found ℕ). z ≡ found w j → BitsStanding u (x ∷ xs) at w j) (is_bit x)
    (λ h e. one_more (bit_true x h) (bits_within xs (suc at) (grow_bit v x) w j e).0
    (bits_text xs (suc at) (grow_bit v x) w j (u * 2 + (x - 48)) (omega arith) (omega arith) e))
    (λ h e. let z = same_value e in
    let y = same_next e in
    let k : j - at ≡ 0 = omega arith in
    record { value = u; kept = omega arith; there = rw k })
  where
    one_more : (48 ≤ x) × (x ≤ 49) → suc at ≤ j → BitsStanding (u * 2 + (x - 48)) xs (suc at) w j → BitsStanding u (x ∷ xs) at w j
    one_more d n s =
        let k : j - at ≡ suc (j - suc at) = omega arith in
        let y : 48 + (x - 48) ≡ x = omega arith in
        let m : binary u ++ (x ∷ []) ≡ binary (u * 2 + (x - 48)) = sym (binary_step u (x - 48) p (omega arith) ∙ ap (λ (b : ℕ). binary u ++ (b ∷ [])) y) in
        record {
          value = s.value;
          kept = s.kept;
          there = rw k (sym (append_snoc (binary u) x xs) ∙ ap (λ (l : List ℕ). l ++ xs) m ∙ s.there);
        }

-- a value that was not kept down stands there itself
pub bits_at-text : (t : List ℕ) (at v i : ℕ) → v < over → bits_at t at ≡ Some (found v i) → drop at t ≡ binary v ++ drop i t
unfolding bits_at
bits_at-text t at v i small =
    on_test (λ (z : Option (Found ℕ)). z ≡ Some (found v i) → drop at t ≡ binary v ++ drop i t) (eqb (get_or t at 0) 48)
    (λ h e. zero_case (eqb-true (get_or t at 0) 48 h) e)
    (λ n. on_test (λ (z : Option (Found ℕ)). z ≡ Some (found v i) → drop at t ≡ binary v ++ drop i t) (eqb (get_or t at 0) 49)
    (λ h e. one_case (eqb-true (get_or t at 0) 49 h) e)
    (λ h e. clash (cc)))
  where
    zero_case : get_or t at 0 ≡ 48 → Some (found 0 (suc at)) ≡ Some (found v i) → drop at t ≡ binary v ++ drop i t
    zero_case b e =
        let x = same_value (same_found e) in
        let y = same_next (same_found e) in
        let n : at < length t = inside t at (get_or t at 0) refl (omega arith) in
        drop-cons t at 0 n ∙ rw (b, ← y, ← x, binary_one 0 (omega arith))

    from_bits : at < length t → get_or t at 0 ≡ 49 → suc at ≤ i → BitsStanding 1 (drop (suc at) t) (suc at) v i → drop at t ≡ binary v ++ drop i t
    from_bits l b j s =
        let k : suc at + (i - suc at) ≡ i = omega arith in
        let q : s.value ≡ v = omega (arith, s.kept) in
        drop-cons t at 0 l
        ∙ ap (λ (x : ℕ). x ∷ drop (suc at) t) b
        ∙ ap (λ (x : List ℕ). x ++ drop (suc at) t) (sym (binary_one 1 (omega arith)))
        ∙ s.there
        ∙ ap (λ (x : List ℕ). binary s.value ++ x) (drop-drop (i - suc at) (suc at) t ∙ ap (λ (x : ℕ). drop x t) k)
        ∙ ap (λ (x : ℕ). binary x ++ drop i t) q

    one_case : get_or t at 0 ≡ 49 → Some (bits at 0 (drop at t)) ≡ Some (found v i) → drop at t ≡ binary v ++ drop i t
    one_case b e =
        let l : at < length t = inside t at (get_or t at 0) refl (omega arith) in
        let h : is_bit (get_or t at 0) ≡ true = rw b in
        let g : grow_bit 0 (get_or t at 0) ≡ 1 = rw b in
        let e₁ : bits (suc at) 1 (drop (suc at) t) ≡ found v i = sym (bits_step t at 0 l ∙ rw (h, g)) ∙ same_found e in
        from_bits l b (bits_within (drop (suc at) t) (suc at) 1 v i e₁).0 (bits_text (drop (suc at) t) (suc at) 1 v i 1 (omega arith) (omega arith) e₁)
