-- What is written reads back as the numbers it was written from, with the place past it; and what was read stands in the text as it would be
-- written.
use mathlib.Core.Bool.{true, false}
use mathlib.Core.Path.{◌≡◌, refl, sym, ◌∙◌, ap}
use mathlib.Core.List.{List, [], ◌∷◌, ◌++◌, append_assoc}
use Prim.Native.Nat.{ℕ, suc, ◌+◌, ◌-◌, ◌*◌, ◌/◌, ◌%◌, ◌<◌, ◌≤◌, min}
use lib.Dec.{eqb}
use lib.ListN.{get_or, drop, length, length-append}
use lib.Seq.{drop-cons, drop-nil, drop-drop, append_snoc}
use native.Mathlib.Omega.{arith}
use native.Mathlib.Decide.{dec_lt}
use borrow.Author.Tests.{eq-eqb, ne_eqb, eqb-true, eqb-false}
use Rattle.std.specs.Prelude.{Option, Some, None}
use Rattle.grammar.specs.declared.Found.{Found}
use Rattle.grammar.specs.Reading.{found, four_of, most, is_digit, grow, digits, number, field, four}
use Rattle.grammar.specs.Writing.{decimal, field_text, four_text}
use Rattle.grammar.proofs.Cases.{on_test, clash}
use Rattle.grammar.proofs.Bytes.{inside, drop_head, drop_past, byte_text, byte_reads}
use Rattle.grammar.proofs.Digits.{digit_in, digit_true, digits_step, digits_within}
use Rattle.grammar.proofs.Places.{same_value, same_next, same_found}
use Rattle.grammar.proofs.Decimals.{decimal_one, decimal_more, decimal_step, decimal_induction}
use Rattle.grammar.proofs.Fields.{field_parts, field_joined, four_parts, four_values}

-- four numbers that no reading has kept down
pub record Small (a b c d : ℕ) : Type 0 where
  pub small_a : a < most
  pub small_b : b < most
  pub small_c : c < most
  pub small_d : d < most

-- ---- what is written reads back
digits_cons : (at v w x : ℕ) (xs : List ℕ) → is_digit x ≡ true → w ≡ grow v x → digits at v (x ∷ xs) ≡ digits (suc at) w xs
unfolding digits
digits_cons at v w x xs d e = rw (d, e)

digits_none : (at v : ℕ) (r : List ℕ) → is_digit (get_or r 0 0) ≡ false → digits at v r ≡ found v at
unfolding digits
digits_none at v [] e = refl
digits_none at v (x ∷ xs) e = rw e

-- the digits of a number of any length; what is read is kept at `most` once it is larger
digits_reads : (at v : ℕ) (r : List ℕ) → digits at 0 (decimal v ++ r) ≡ digits (at + length (decimal v)) (min most v) r
digits_reads at v r = decimal_induction (λ n. (r : List ℕ) → digits at 0 (decimal n ++ r) ≡ digits (at + length (decimal n)) (min most n) r) one more v r
  where
    one : (n : ℕ) → n < 10 → (r : List ℕ) → digits at 0 (decimal n ++ r) ≡ digits (at + length (decimal n)) (min most n) r
    one n p r =
        let k : suc at ≡ at + 1 = omega arith in
        rw (decimal_one n p)
        (digits_cons at 0 (min most n) (48 + n) r (digit_in (48 + n) (omega arith) (omega arith)) (omega arith) ∙ ap (λ (m : ℕ). digits m (min most n) r) k)

    more :
        (n : ℕ) → 10 ≤ n → ((r : List ℕ) → digits at 0 (decimal (n / 10) ++ r) ≡ digits (at + length (decimal (n / 10))) (min most (n / 10)) r) →
        (r : List ℕ) → digits at 0 (decimal n ++ r) ≡ digits (at + length (decimal n)) (min most n) r
    more n p ih r =
        let d : ℕ = 48 + n % 10 in
        let x : List ℕ = decimal (n / 10) in
        let k : suc (at + length x) ≡ at + length (x ++ (d ∷ [])) = omega (arith, length-append x (d ∷ [])) in
        rw (decimal_more n p)
        (ap (λ (l : List ℕ). digits at 0 l) (append_assoc x (d ∷ []) r)
        ∙ ih (d ∷ r)
        ∙ digits_cons (at + length x) (min most (n / 10)) (min most n) d r (digit_in d (omega arith) (omega arith)) (omega arith)
        ∙ ap (λ (m : ℕ). digits m (min most n) r) k)

-- a number other than 0 begins with a digit other than 0
record Leading (v : ℕ) : Type 0 where
  digit : ℕ
  others : List ℕ
  shape : decimal v ≡ digit ∷ others
  low : 48 < digit
  high : digit ≤ 57

leading : (v : ℕ) → 0 < v → Leading v
leading = decimal_induction (λ n. 0 < n → Leading n) one more
  where
    one : (n : ℕ) → n < 10 → 0 < n → Leading n
    one n p q = record { digit = 48 + n; others = []; shape = decimal_one n p; low = omega arith; high = omega arith }

    more : (n : ℕ) → 10 ≤ n → (0 < n / 10 → Leading (n / 10)) → 0 < n → Leading n
    more n p ih q =
        let l = ih (omega arith) in
        record {
          digit = l.digit;
          others = l.others ++ ((48 + n % 10) ∷ []);
          shape = decimal_more n p ∙ ap (λ (x : List ℕ). x ++ ((48 + n % 10) ∷ [])) l.shape;
          low = l.low;
          high = l.high;
        }

pub number_reads : (t : List ℕ) (at v : ℕ) (r : List ℕ) → is_digit (get_or r 0 0) ≡ false → drop at t ≡ decimal v ++ r →
    number t at ≡ Some (found (min most v) (at + length (decimal v)))
unfolding number
number_reads t at v r d e = go (dec_lt 0 v)
  where
    go : Dec (0 < v) → number t at ≡ Some (found (min most v) (at + length (decimal v)))
    go (yes p) =
        let l = leading v p in
        let f = drop_head t at l.digit (l.others ++ r) (e ∙ ap (λ (x : List ℕ). x ++ r) l.shape) in
        let b : get_or t at 0 ≡ l.digit = f.byte in
        let lo = l.low in
        let hi = l.high in
        rw (b, ne_eqb l.digit 48 (λ (q : l.digit ≡ 48). omega arith), digit_in l.digit (omega arith) (omega arith))
        (ap Some (ap (λ (x : List ℕ). digits at 0 x) e ∙ digits_reads at v r ∙ digits_none (at + length (decimal v)) (min most v) r d))
    go (no p) =
        let z : v ≡ 0 = omega arith in
        let o : decimal v ≡ 48 ∷ [] = ap decimal z ∙ decimal_one 0 (omega arith) in
        let f = drop_head t at 48 r (e ∙ ap (λ (x : List ℕ). x ++ r) o) in
        let k : suc at ≡ at + 1 = omega arith in
        rw (eq-eqb (get_or t at 0) 48 f.byte, o, z, k)

pub field_reads : (t : List ℕ) (s at v : ℕ) (r : List ℕ) → is_digit s ≡ false → drop at t ≡ field_text s v ++ r →
    field t s at ≡ Some (found (min most v) (at + length (field_text s v)))
field_reads t s at v r d e =
    let f : drop at t ≡ decimal v ++ (s ∷ r) = e ∙ append_assoc (decimal v) (s ∷ []) r in
    let b = byte_reads t (at + length (decimal v)) s r (drop_past t at (decimal v) (s ∷ r) f) in
    let k : suc (at + length (decimal v)) ≡ at + length (field_text s v) = omega (arith, length-append (decimal v) (s ∷ [])) in
    field_joined t s at (min most v) (at + length (decimal v)) (number_reads t at v (s ∷ r) d f) b ∙ ap (λ (n : ℕ). Some (found (min most v) n)) k

module _ (t : List ℕ) (at a b c d : ℕ) (r : List ℕ) where
  pub four_reads :
      drop at t ≡ four_text a b c d ++ r → four t at ≡ Some (found (four_of (min most a) (min most b) (min most c) (min most d)) (at + length (four_text a b c d)))
  four_reads e =
      let xa : List ℕ = field_text 44 a in
      let xb : List ℕ = field_text 44 b in
      let xc : List ℕ = field_text 44 c in
      let xd : List ℕ = field_text 10 d in
      let ea : drop at t ≡ xa ++ (xb ++ (xc ++ (xd ++ r))) = e ∙ simp append_assoc in
      let eb : drop (at + length xa) t ≡ xb ++ (xc ++ (xd ++ r)) = drop_past t at xa _ ea in
      let ec : drop (at + length xa + length xb) t ≡ xc ++ (xd ++ r) = drop_past t _ xb _ eb in
      let ed : drop (at + length xa + length xb + length xc) t ≡ xd ++ r = drop_past t _ xc _ ec in
      let k : at + length xa + length xb + length xc + length xd ≡ at + length (four_text a b c d) =
      omega (arith, length-append xa (xb ++ (xc ++ xd)), length-append xb (xc ++ xd), length-append xc xd) in
      sym
      (four_values t at
      (sym (field_reads t 44 at a _ refl ea))
      (sym (field_reads t 44 (at + length xa) b _ refl eb))
      (sym (field_reads t 44 (at + length xa + length xb) c _ refl ec))
      (sym (field_reads t 10 (at + length xa + length xb + length xc) d _ refl ed)))
      ∙ ap (λ (n : ℕ). Some (found (four_of (min most a) (min most b) (min most c) (min most d)) n)) k

-- ---- what was read stands there as it is written: a number of any length, which was kept at `most` if it is larger
pub record Standing (t : List ℕ) (at : ℕ) (text : ℕ → List ℕ) (v i : ℕ) : Type 0 where
  pub value : ℕ
  pub kept : v ≡ min most value
  pub there : drop at t ≡ text value ++ drop i t

-- the digits after those of u
record DigitsStanding (u : ℕ) (l : List ℕ) (at w j : ℕ) : Type 0 where
  value : ℕ
  kept : w ≡ min most value
  there : decimal u ++ l ≡ decimal value ++ drop (j - at) l

digits_text : (l : List ℕ) (at v w j u : ℕ) → 0 < u → v ≡ min most u → digits at v l ≡ found w j → DigitsStanding u l at w j
unfolding digits
digits_text [] at v w j u p q = λ e. let z = same_value e in record { value = u; kept = omega arith; there = rw (drop-nil (j - at)) }
digits_text (x ∷ xs) at v w j u p q =
    on_test (λ (z : Found ℕ). z ≡ found w j → DigitsStanding u (x ∷ xs) at w j) (is_digit x)
    (λ h e. one_more (digit_true x h) (digits_within xs (suc at) (grow v x) w j e).0
    (digits_text xs (suc at) (grow v x) w j (u * 10 + (x - 48)) (omega arith) (omega arith) e))
    (λ h e. let z = same_value e in
    let y = same_next e in
    let k : j - at ≡ 0 = omega arith in
    record { value = u; kept = omega arith; there = rw k })
  where
    one_more : (48 ≤ x) × (x ≤ 57) → suc at ≤ j → DigitsStanding (u * 10 + (x - 48)) xs (suc at) w j → DigitsStanding u (x ∷ xs) at w j
    one_more d n s =
        let k : j - at ≡ suc (j - suc at) = omega arith in
        let y : 48 + (x - 48) ≡ x = omega arith in
        let m : decimal u ++ (x ∷ []) ≡ decimal (u * 10 + (x - 48)) = sym (decimal_step u (x - 48) p (omega arith) ∙ ap (λ (b : ℕ). decimal u ++ (b ∷ [])) y) in
        record {
          value = s.value;
          kept = s.kept;
          there = rw k (sym (append_snoc (decimal u) x xs) ∙ ap (λ (l : List ℕ). l ++ xs) m ∙ s.there);
        }

above : (x : ℕ) → 48 ≤ x → (x ≡ 48 → ⊥) → 48 < x
above x p q = omega arith

pub number_standing : (t : List ℕ) (at v i : ℕ) → number t at ≡ Some (found v i) → Standing t at decimal v i
unfolding number
number_standing t at v i =
    on_test (λ (z : Option (Found ℕ)). z ≡ Some (found v i) → Standing t at decimal v i) (eqb (get_or t at 0) 48)
    (λ h e. zero_case (eqb-true (get_or t at 0) 48 h) e)
    (λ n. on_test (λ (z : Option (Found ℕ)). z ≡ Some (found v i) → Standing t at decimal v i) (is_digit (get_or t at 0))
    (λ h e. digit_case (eqb-false (get_or t at 0) 48 n) h e)
    (λ h e. clash (cc)))
  where
    zero_case : get_or t at 0 ≡ 48 → Some (found 0 (suc at)) ≡ Some (found v i) → Standing t at decimal v i
    zero_case b e =
        let x = same_value (same_found e) in
        let y = same_next (same_found e) in
        let n : at < length t = inside t at (get_or t at 0) refl (omega arith) in
        record { value = 0; kept = omega arith; there = drop-cons t at 0 n ∙ rw (b, ← y, decimal_one 0 (omega arith)) }

    -- the digits after the first one, g
    from_digits :
        (g : ℕ) → at < length t → g < 10 → 48 + g ≡ get_or t at 0 → suc at ≤ i → DigitsStanding g (drop (suc at) t) (suc at) v i → Standing t at decimal v i
    from_digits g l small y j s =
        let k : suc at + (i - suc at) ≡ i = omega arith in
        record {
          value = s.value;
          kept = s.kept;
          there =
              drop-cons t at 0 l
              ∙ ap (λ (x : ℕ). x ∷ drop (suc at) t) (sym y)
              ∙ ap (λ (x : List ℕ). x ++ drop (suc at) t) (sym (decimal_one g small))
              ∙ s.there
              ∙ ap (λ (x : List ℕ). decimal s.value ++ x) (drop-drop (i - suc at) (suc at) t ∙ ap (λ (x : ℕ). drop x t) k);
        }

    digit_case : (get_or t at 0 ≡ 48 → ⊥) → is_digit (get_or t at 0) ≡ true → Some (digits at 0 (drop at t)) ≡ Some (found v i) → Standing t at decimal v i
    digit_case n h e =
        let d = digit_true (get_or t at 0) h in
        let l : at < length t = inside t at (get_or t at 0) refl (omega arith) in
        let b : 48 < get_or t at 0 = above (get_or t at 0) d.0 n in
        let e₁ : digits (suc at) (grow 0 (get_or t at 0)) (drop (suc at) t) ≡ found v i = sym (digits_step t at 0 l ∙ rw h) ∙ same_found e in
        from_digits (get_or t at 0 - 48) l (omega arith) (omega arith) (digits_within (drop (suc at) t) (suc at) (grow 0 (get_or t at 0)) v i e₁).0
        (digits_text (drop (suc at) t) (suc at) (grow 0 (get_or t at 0)) v i (get_or t at 0 - 48) (omega arith) (omega arith) e₁)

pub field_standing : (t : List ℕ) (s at v i : ℕ) → field t s at ≡ Some (found v i) → Standing t at (field_text s) v i
field_standing t s at v i e =
    let p = field_parts t s at v i e in
    let n = number_standing t at v p.end p.number_there in
    record {
      value = n.value;
      kept = n.kept;
      there =
          n.there
          ∙ ap (λ (x : List ℕ). decimal n.value ++ x) (byte_text t p.end s p.separator_there ∙ ap (λ (n : ℕ). s ∷ drop n t) (sym p.past))
          ∙ sym (append_assoc (decimal n.value) (s ∷ []) (drop i t));
    }

-- four numbers that stand in the text
pub record FourStanding (t : List ℕ) (at a b c d i : ℕ) : Type 0 where
  pub a' : ℕ
  pub b' : ℕ
  pub c' : ℕ
  pub d' : ℕ
  pub kept_a : a ≡ min most a'
  pub kept_b : b ≡ min most b'
  pub kept_c : c ≡ min most c'
  pub kept_d : d ≡ min most d'
  pub there : drop at t ≡ four_text a' b' c' d' ++ drop i t

pub four_standing : (t : List ℕ) (at a b c d i : ℕ) → four t at ≡ Some (found (four_of a b c d) i) → FourStanding t at a b c d i
four_standing t at a b c d i e =
    let p = four_parts t at a b c d i e in
    let x = field_standing t 44 at a p.at_b p.field_a in
    let y = field_standing t 44 p.at_b b p.at_c p.field_b in
    let z = field_standing t 44 p.at_c c p.at_d p.field_c in
    let w = field_standing t 10 p.at_d d i p.field_d in
    record {
      a' = x.value;
      b' = y.value;
      c' = z.value;
      d' = w.value;
      kept_a = x.kept;
      kept_b = y.kept;
      kept_c = z.kept;
      kept_d = w.kept;
      there =
          x.there
          ∙ ap (λ (l : List ℕ). field_text 44 x.value ++ l) y.there
          ∙ ap (λ (l : List ℕ). field_text 44 x.value ++ (field_text 44 y.value ++ l)) z.there
          ∙ ap (λ (l : List ℕ). field_text 44 x.value ++ (field_text 44 y.value ++ (field_text 44 z.value ++ l))) w.there
          ∙ simp append_assoc;
    }

-- numbers that no reading has kept down stand there themselves
pub field_text_lem : (t : List ℕ) (s at v i : ℕ) → v < most → field t s at ≡ Some (found v i) → drop at t ≡ field_text s v ++ drop i t
field_text_lem t s at v i h e =
    let x = field_standing t s at v i e in
    let q : x.value ≡ v = omega (arith, x.kept) in
    x.there ∙ ap (λ (n : ℕ). field_text s n ++ drop i t) q

pub four_text_lem : (t : List ℕ) (at a b c d i : ℕ) → Small a b c d → four t at ≡ Some (found (four_of a b c d) i) → drop at t ≡ four_text a b c d ++ drop i t
four_text_lem t at a b c d i s e =
    let x = four_standing t at a b c d i e in
    let qa : x.a' ≡ a = omega (arith, x.kept_a, s.small_a) in
    let qb : x.b' ≡ b = omega (arith, x.kept_b, s.small_b) in
    let qc : x.c' ≡ c = omega (arith, x.kept_c, s.small_c) in
    let qd : x.d' ≡ d = omega (arith, x.kept_d, s.small_d) in
    x.there ∙ rw (qa, qb, qc, qd)
