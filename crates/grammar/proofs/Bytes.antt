-- Bytes and words at a place.
use mathlib.Core.Bool.{Bool, true, false, ◌&&◌}
use mathlib.Core.Path.{◌≡◌, refl, sym, ◌∙◌, ap}
use mathlib.Core.List.{List, [], ◌∷◌, ◌++◌}
use Prim.Native.Nat.{ℕ, suc, ◌+◌, ◌-◌, ◌<◌, ◌≤◌}
use lib.Dec.{eqb, ltb, eqb-suc-zero}
use lib.ListN.{get_or, drop, length, get_or-eq_default, drop_of_length-le, length-drop, length-append}
use lib.Seq.{drop-cons, drop-drop, drop-append_seam}
use native.Mathlib.Omega.{arith}
use native.Mathlib.Numerals.{add-one}
use native.Mathlib.Nat.{add-zero}
use native.Mathlib.Decide.{dec_lt}
use borrow.Author.Tests.{eq-eqb, lt-ltb, le-ltb, ltb-true, eqb-true}
use Rattle.std.specs.List.{starts_with, slice_range}
use Rattle.std.proofs.lemmas.List.{take_all}
use Rattle.std.proofs.lemmas.Slice.Eq.{starts_is}
use Rattle.std.proofs.lemmas.Bool.Decides.{Decides-eqb}
use Rattle.grammar.specs.Reading.{has_byte, has_word}
use Rattle.grammar.proofs.Cases.{and_true, clash}

-- a byte that is not 0 stands within the text
pub inside : (t : List ℕ) (at b : ℕ) → b ≡ get_or t at 0 → 0 < b → at < length t
inside t at b e h = go (dec_lt at (length t))
  where
    go : Dec (at < length t) → at < length t
    go (yes p) = p
    go (no p) = let z : get_or t at 0 ≡ 0 = get_or-eq_default t 0 (omega arith) in omega arith

-- ---- what stands from a place on
pub drop_past : (t : List ℕ) (at : ℕ) (x r : List ℕ) → drop at t ≡ x ++ r → drop (at + length x) t ≡ r
drop_past t at x r e = sym (drop-drop (length x) at t) ∙ ap (λ (l : List ℕ). drop (length x) l) e ∙ drop-append_seam x r

pub record Head (t : List ℕ) (at x : ℕ) (r : List ℕ) : Type 0 where
  pub within : at < length t
  pub byte : get_or t at 0 ≡ x
  pub rest : drop (suc at) t ≡ r

pub drop_head : (t : List ℕ) (at x : ℕ) (r : List ℕ) → drop at t ≡ x ∷ r → Head t at x r
drop_head t at x r e = go (dec_lt at (length t))
  where
    go : Dec (at < length t) → Head t at x r
    go (yes p) =
        let d = drop-cons t at 0 p in
        record { within = p; byte = cc; rest = cc }
    go (no p) = let d : drop at t ≡ [] = drop_of_length-le t {i = at} (omega arith) in clash (cc)

-- ---- one byte
module _ (t : List ℕ) (at x : ℕ) where
  pub byte_inside : at < length t → eqb (get_or t at 0) x ≡ has_byte t at x
  byte_inside h = rw (lt-ltb at (length t) h)

  pub byte_past : length t ≤ at → false ≡ has_byte t at x
  byte_past h = rw (le-ltb at (length t) h)

  pub byte_true : has_byte t at x ≡ true → Head t at x (drop (suc at) t)
  byte_true e =
      let h = and_true (ltb at (length t)) (eqb (get_or t at 0) x) e in
      record { within = ltb-true at (length t) h.0; byte = eqb-true (get_or t at 0) x h.1; rest = refl }

  pub byte_text : has_byte t at x ≡ true → drop at t ≡ x ∷ drop (suc at) t
  byte_text e = let h = byte_true e in drop-cons t at 0 h.within ∙ rw h.byte

  pub byte_reads : (r : List ℕ) → drop at t ≡ x ∷ r → has_byte t at x ≡ true
  byte_reads r e = let h = drop_head t at x r e in rw (lt-ltb at (length t) h.within, eq-eqb (get_or t at 0) x h.byte)

-- ---- a word that was read stands there, and one that stands there is read
pub word_text_lem : (t w : List ℕ) (at : ℕ) → has_word t at w ≡ true → drop at t ≡ w ++ drop (at + length w) t
unfolding has_word
word_text_lem t [] at e = rw (add-zero at)
word_text_lem t (x ∷ xs) at e =
    let h = and_true (has_byte t at x) (has_word t (suc at) xs) e in
    let k : suc at + length xs ≡ at + suc (length xs) = omega arith in
    byte_text t at x h.0 ∙ ap (λ (r : List ℕ). x ∷ r) (word_text_lem t xs (suc at) h.1 ∙ ap (λ (y : ℕ). xs ++ drop y t) k)

pub word_reads : (t w r : List ℕ) (at : ℕ) → drop at t ≡ w ++ r → has_word t at w ≡ true
unfolding has_word
word_reads t [] r at e = refl
word_reads t (x ∷ xs) r at e =
    let b : has_byte t at x ≡ true = byte_reads t at x (xs ++ r) e in
    let m : has_word t (suc at) xs ≡ true = word_reads t xs r (suc at) (drop_head t at x (xs ++ r) e).rest in
    rw (b, m)

-- a test that holds exactly where another does is that one
same_test : (a b : Bool) → (a ≡ true → b ≡ true) → (b ≡ true → a ≡ true) → a ≡ b
same_test true b p q = sym (p refl)
same_test false true p q = q refl
same_test false false p q = refl

-- a word stands at a place exactly where the text from there on starts with it
pub word_starts :
    (t w : List ℕ) {at : ℕ} {r : Bool} {rest : List ℕ} → at ≤ length t → rest ≡ slice_range t at (length t) → r ≡ starts_with eqb rest w → r ≡ has_word t at w
word_starts t w {at} {r} {rest} l d e =
    let z : rest ≡ drop at t = d ∙ take_all (length t - at) (drop at t) (omega (arith, length-drop at t)) in
    let s = starts_is Decides-eqb (drop at t) w r (rw (← z) e) in
    same_test r (has_word t at w) (λ h. word_reads t w _ at (s.0 h)) (λ h. s.1 _ (word_text_lem t w at h))

-- past the end there stands the empty word alone
pub word_past : (t w : List ℕ) (at : ℕ) → length t < at → eqb (length w) 0 ≡ has_word t at w
unfolding has_word
word_past t [] at h = refl
word_past t (x ∷ xs) at h = rw (le-ltb at (length t) (omega arith)) (eqb-suc-zero (length xs))

-- a word that was read ends within the text
pub word_within : (t w : List ℕ) (at : ℕ) → 0 < length w → has_word t at w ≡ true → at + length w ≤ length t
word_within t w at h e =
    let l = ap length (word_text_lem t w at e) in
    omega (arith, length-drop at t, length-append w (drop (at + length w) t), length-drop (at + length w) t)
