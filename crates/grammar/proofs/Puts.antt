-- Texts put into a buffer one after another.
use mathlib.Core.Path.{◌≡◌, refl, sym, ◌∙◌, ap}
use mathlib.Core.List.{List, [], ◌∷◌, ◌++◌}
use Prim.Native.Nat.{ℕ, suc, ◌+◌, ◌/◌, ◌%◌, ◌<◌, ◌≤◌}
use lib.ListN.{get_or, set, take, drop, length, length-append, drop_of_length-le}
use lib.Seq.{sets, sets-eq, length-sets, set_out, take_at, drop-cons}
use native.Mathlib.Omega.{arith}
use native.Mathlib.Numerals.{add-one}
use native.Mathlib.Nat.{add-zero}
use native.Mathlib.Decide.{dec_lt}
use Rattle.grammar.specs.Writing.{decimal, field_text, four_text, largest, place_after, Put}
use Rattle.grammar.proofs.Decimals.{decimal_one, decimal_more}

pub sets_append : (x y b : List ℕ) (at : ℕ) → sets b at (x ++ y) ≡ sets (sets b at x) (at + length x) y
sets_append [] y b at = rw (add-zero at)
sets_append (a ∷ x) y b at =
    let e : suc at + length x ≡ at + suc (length x) = omega arith in
    sets_append x y (set b at a) (suc at) ∙ ap (λ (n : ℕ). sets (sets (set b at a) (suc at) x) n y) e

-- past the end nothing changes
sets_out : (y b : List ℕ) (at : ℕ) → length b ≤ at → sets b at y ≡ b
sets_out [] b at h = refl
sets_out (a ∷ y) b at h = rw (set_out b at a h) (sets_out y b (suc at) (omega arith))

-- so a place past the largest may be taken for the largest
sets_place : (y b : List ℕ) (at n : ℕ) → length b ≤ largest → sets b (at + n) y ≡ sets b (place_after at n) y
sets_place y b at n h = go (dec_lt (at + n) largest)
  where
    go : Dec (at + n < largest) → sets b (at + n) y ≡ sets b (place_after at n) y
    go (yes p) = let e : place_after at n ≡ at + n = omega arith in rw e
    go (no p) = sets_out y b (at + n) (omega arith) ∙ sym (sets_out y b (place_after at n) (omega arith))

-- a buffer and a place that code can hold
abbrev pub Room : List ℕ → ℕ → Type 0
Room b at = (length b ≤ largest) × (at ≤ largest)

-- What of a text is still to be put: b₀, at and whole as it began, b and i as it stands.
pub record Rest (b₀ : List ℕ) (at : ℕ) (whole b : List ℕ) (i : ℕ) (rest : List ℕ) : Type 0 where
  pub place : place_after at (length whole) ≡ place_after i (length rest)
  pub bytes : sets b₀ at whole ≡ sets b i rest
  pub room : Room b i

pub rest_all : (b : List ℕ) (at : ℕ) (w : List ℕ) → Room b at → Rest b at w b at w
rest_all b at w h = record { place = refl; bytes = refl; room = h }

module _ {b₀ : List ℕ} {at : ℕ} {whole b : List ℕ} {i : ℕ} where
  pub rest_step : {x y : List ℕ} {j : ℕ} {z : List ℕ} → Rest b₀ at whole b i (x ++ y) → Put b i x j z → Rest b₀ at whole z j y
  rest_step {x} {y} {j} {z} r p =
      let same : length z ≡ length b = ap length p.bytes ∙ length-sets b i x in
      let n = r.place in
      let m = p.place in
      let h = r.room in
      record {
        place = omega (arith, length-append x y);
        bytes =
            r.bytes
            ∙ sets_append x y b i
            ∙ ap (λ (l : List ℕ). sets l (i + length x) y) (sym p.bytes)
            ∙ sets_place y z i (length x) (omega arith)
            ∙ ap (λ (n : ℕ). sets z n y) (sym p.place);
        room = omega arith;
      }

  pub rest_last : {x : List ℕ} {j : ℕ} {z : List ℕ} → Rest b₀ at whole b i x → Put b i x j z → Put b₀ at whole j z
  rest_last {x} {j} {z} r p = record { place = p.place ∙ sym r.place; bytes = p.bytes ∙ sym r.bytes }

  pub rest_none : Rest b₀ at whole b i [] → Put b₀ at whole i b
  rest_none r = let n = r.place in let h = r.room in record { place = omega arith; bytes = sym r.bytes }

  pub rest_length : {rest : List ℕ} → Rest b₀ at whole b i rest → length b ≡ length b₀
  rest_length {rest} r = sym (length-sets b i rest) ∙ sym (ap length r.bytes) ∙ length-sets b₀ at whole

-- ---- two texts, one after the other
module _ {b : List ℕ} {at i j : ℕ} {x y z₁ z₂ : List ℕ} where
  pub put_both : Room b at → Put b at x i z₁ → Put z₁ i y j z₂ → Put b at (x ++ y) j z₂
  put_both h p q = rest_last (rest_step (rest_all b at (x ++ y) h) p) q

-- ---- one byte, that fits or not
pub put_in : (b : List ℕ) (at x : ℕ) {next : ℕ} → next ≡ place_after at 1 → Put b at (x ∷ []) next (set b at x)
put_in b at x e = record { place = e; bytes = refl }

pub put_out : (b : List ℕ) (at x : ℕ) {next : ℕ} → length b ≤ at → next ≡ place_after at 1 → Put b at (x ∷ []) next b
put_out b at x h e = record { place = e; bytes = sym (set_out b at x h) }

-- ---- a turn of the loop that puts a word
module _ {b₀ : List ℕ} {at : ℕ} {b : List ℕ} {i : ℕ} (k : ℕ) where
  pub word_turn : (w : List ℕ) {j : ℕ} {z : List ℕ} → k < length w → Rest b₀ at w b i (drop k w) → Put b i (get_or w k 0 ∷ []) j z →
      Rest b₀ at w z j (drop (k + 1) w)
  word_turn w h r p = rest_step (rw (add-one k) (rw (drop-cons w k 0 h) at r)) p

  pub word_done : (w : List ℕ) → length w ≤ k → Rest b₀ at w b i (drop k w) → Put b₀ at w i b
  word_done w h r = rest_none (rw (drop_of_length-le w {i = k} h) at r)

-- ---- decimals, fields, four numbers
module _ {b : List ℕ} {at v j : ℕ} {z : List ℕ} where
  pub put_digit : v < 10 → Put b at ((48 + v) ∷ []) j z → Put b at (decimal v) j z
  put_digit h p = rw (decimal_one v h) p

  pub put_digits : {i : ℕ} {y : List ℕ} → 10 ≤ v → Room b at → Put b at (decimal (v / 10)) i y → Put y i ((48 + v % 10) ∷ []) j z → Put b at (decimal v) j z
  put_digits h l p q = rw (decimal_more v h) (put_both l p q)

module _ {b : List ℕ} {at i j k l : ℕ} {z₁ z₂ z₃ z₄ : List ℕ} where
  pub put_fields :
      (x y z w : ℕ) → Room b at → Put b at (field_text 44 x) i z₁ → Put z₁ i (field_text 44 y) j z₂ → Put z₂ j (field_text 44 z) k z₃ →
      Put z₃ k (field_text 10 w) l z₄ → Put b at (four_text x y z w) l z₄
  put_fields x y z w h p q r s = rest_last (rest_step (rest_step (rest_step (rest_all b at (four_text x y z w) h) p) q) r) s

-- ---- a text put at the front of a buffer that has room for it, and the length that an empty buffer tells
module _ {b text : List ℕ} {next : ℕ} {z : List ℕ} where
  pub put_front : length text ≤ length b → Put b 0 text next z → z ≡ text ++ drop (length text) b
  put_front h p =
      let e : 0 + length text ≡ length text = omega arith in
      p.bytes ∙ sets-eq text b 0 (omega arith) ∙ rw e

  pub front_text : Put b 0 text next z → next < largest → next ≤ length b → take next z ≡ text
  front_text p h l =
      let e = p.place in
      ap (λ (y : List ℕ). take next y) (put_front (omega arith) p) ∙ take_at text (drop (length text) b) next (omega arith)

  -- the place told decides whether a text fits a buffer, even one too long for any place
  pub put_fits : (n : ℕ) → n < largest → Put b 0 text next z → (next ≤ n → (length text ≤ n) × (next ≡ length text)) × (n < next → n < length text)
  put_fits n h p = let m = p.place in (λ (q : next ≤ n). omega arith, λ (q : n < next). omega arith)
