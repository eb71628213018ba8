-- The parts of the machines lie apart: what is put into one is there, and every other machine keeps its own
use Prim.Native.Nat.{ℕ, zero, suc, ◌+◌, ◌-◌, ◌*◌, ◌<◌, ◌≤◌, min}
use mathlib.Core.Path.{◌≡◌, refl, sym, ap, ◌∙◌}
use mathlib.Core.Bool.{true, false}
use mathlib.Core.Logic.{◌≢◌, ◌⊎◌, inl, inr, ⊎_elim}
use mathlib.Core.List.{List, [], ◌∷◌, ◌++◌, append_assoc}
use native.Mathlib.Omega.{arith}
use native.Mathlib.Nat.{le_of_lt, lt_of_le_of_lt, mul-le-mul_left, mul-lt-mul_of_pos_right}
use lib.Dec.{ltb}
use lib.ListN.{length, get_or, set, take, drop, length-set, length-take, length-drop}
use lib.Seq.{sets, length-sets, sets-eq, get_or-set_same, get_or-set_other, get_or-take, get_or-drop, drop-drop, ext_get_or}
use borrow.Author.Tests.{ltb-true, ltb-false}
use Rattle.construction.proofs.Basics.{true_or_false}
use Rattle.codes.proofs.Blocks.{apart}
use Rattle.shared_processor.specs.Parts.{part, with_part}

-- words stored from a place on, word by word
out :
    (vs l : List ℕ) (i q : ℕ) → (q < i) ⊎ (i + length vs ≤ q) → get_or (sets l i vs) q 0 ≡ get_or l q 0
out [] l i q h = refl
out (a ∷ vs) l i q h =
    out vs (set l i a) (suc i) q (⊎_elim (λ (p : q < i). inl (omega arith)) (λ (p : i + suc (length vs) ≤ q). inr (omega arith)) h)
    ∙ get_or-set_other l i q a 0 (⊎_elim (λ (p : q < i) e. omega arith) (λ (p : i + suc (length vs) ≤ q) e. omega arith) h)

within : (vs l : List ℕ) (i k : ℕ) → k < length vs → i + length vs ≤ length l → get_or (sets l i vs) (i + k) 0 ≡ get_or vs k 0
within [] l i k h p = absurd (omega arith)
within (a ∷ vs) l i zero h p =
    ap (λ (q : ℕ). get_or (sets (set l i a) (suc i) vs) q 0) (omega arith)
    ∙ (out vs (set l i a) (suc i) i (inl (omega arith)) ∙ get_or-set_same l i a 0 (omega arith))
within (a ∷ vs) l i (suc k) h p =
    ap (λ (q : ℕ). get_or (sets (set l i a) (suc i) vs) q 0) (omega arith)
    ∙ within vs (set l i a) (suc i) k (omega arith) (let e = length-set l i a in omega arith)

module _ (size : ℕ) (words : List ℕ) where
  pub part_length : (m : ℕ) → length (part size words m) ≡ min size (length words - size * m)
  unfolding part
  part_length m = simp (length-take, length-drop)

  pub part_at : (m i : ℕ) → i < size → get_or (part size words m) i 0 ≡ get_or words (size * m + i) 0
  unfolding part
  part_at m i h = rw (get_or-take, get_or-drop)

  pub with_length : (m : ℕ) (w : List ℕ) → length (with_part size words m w) ≡ length words
  unfolding with_part
  with_length m w = length-sets words (size * m) w

module _ (size : ℕ) (words : List ℕ) (m : ℕ) (w : List ℕ) (e : length w ≡ length (part size words m)) where
  same_length : (j : ℕ) → length (part size (with_part size words m w) j) ≡ length (part size words j)
  same_length j =
      part_length size (with_part size words m w) j
      ∙ (ap (λ (n : ℕ). min size (n - size * j)) (with_length size words m w) ∙ sym (part_length size words j))

  inside : (i : ℕ) → i < length w → size * m + length w ≤ length words
  inside i h = let p = e ∙ part_length size words m in omega arith

  small : length w ≤ size
  small = let p = e ∙ part_length size words m in omega arith

  -- what was put there is there
  pub part_same : part size (with_part size words m w) m ≡ w
  unfolding with_part
  part_same =
      ext_get_or 0 (part size (with_part size words m w) m) w (same_length m ∙ sym e)
      (λ i h. let k : i < length w = let n = same_length m ∙ sym e in omega arith in
      part_at size (with_part size words m w) m i (let s = small in omega arith) ∙ within w words (size * m) i k (inside i k))

  -- and nothing else changed
  pub part_other : (j : ℕ) → j ≢ m → part size (with_part size words m w) j ≡ part size words j
  unfolding with_part
  part_other j ne =
      ext_get_or 0 (part size (with_part size words m w) j) (part size words j) (same_length j)
      (λ i h.
      let k : i < size = let n = part_length size (with_part size words m w) j in omega arith in
      part_at size (with_part size words m w) j i k
      ∙ (out w words (size * m) (size * j + i) (aside i k) ∙ sym (part_at size words j i k)))
    where
      aside : (i : ℕ) → i < size → (size * j + i < size * m) ⊎ (size * m + length w ≤ size * j + i)
      aside i k =
          let s = small in
          ⊎_elim (λ (z : size * m + size ≤ size * j). inr (omega arith)) (λ (z : size * j + size ≤ size * m). inl (omega arith)) (apart size m j ne)

-- a part put back as it was
pub part_kept : (size : ℕ) (words : List ℕ) (m : ℕ) → with_part size words m (part size words m) ≡ words
unfolding with_part
part_kept size words m =
    ext_get_or 0 (with_part size words m w) words (with_length size words m w)
    (λ i h. at i (true_or_false (ltb i (size * m))) (true_or_false (ltb i (size * m + length w))))
  where
    w : List ℕ
    w = part size words m

    at : (i : ℕ) → (ltb i (size * m) ≡ true) ⊎ (ltb i (size * m) ≡ false) → (ltb i (size * m + length w) ≡ true) ⊎ (ltb i (size * m + length w) ≡ false) →
        get_or (sets words (size * m) w) i 0 ≡ get_or words i 0
    at i (inl p) _ = out w words (size * m) i (inl (ltb-true i (size * m) p))
    at i (inr p) (inr q) = out w words (size * m) i (inr (ltb-false i (size * m + length w) q))
    at i (inr p) (inl q) =
        let a = ltb-false i (size * m) p in
        let b = ltb-true i (size * m + length w) q in
        let n = part_length size words m in
        let there : i ≡ size * m + (i - size * m) = omega arith in
        ap (λ (k : ℕ). get_or (sets words (size * m) w) k 0) there
        ∙ (within w words (size * m) (i - size * m) (omega arith) (omega arith)
        ∙ (part_at size words m (i - size * m) (omega arith) ∙ ap (λ (k : ℕ). get_or words k 0) (sym there)))

-- a size and a number of 32 bits each make a place that fits
pub product : {a b : ℕ} → a < 4294967296 → b < 4294967296 → a * b < 18446744073709551616
product {a} {b} p q = lt_of_le_of_lt (mul-le-mul_left a (le_of_lt q)) (mul-lt-mul_of_pos_right p (omega arith))

-- the bounds of a part, as code has them
pub shorter : (e s n : ℕ) → e ≤ n → min (e - s) (n - s) ≡ e - s
shorter e s n h = omega arith

extent : (a size n s e : ℕ) → s ≡ min a n → e ≡ min (s + size) n → e - s ≡ min size (n - a)
extent a size n s e at to = omega arith

module _ (size : ℕ) (words : List ℕ) (m s e : ℕ) (at : s ≡ min (size * m) (length words)) (to : e ≡ min (s + size) (length words)) where
  pub cut : take (e - s) (drop s words) ≡ part size words m
  cut =
      ext_get_or 0 (take (e - s) (drop s words)) (part size words m) same
      (λ i h.
      let n : length (take (e - s) (drop s words)) ≡ min (e - s) (length words - s) = simp (length-take, length-drop) in
      let k : i < e - s = omega arith in
      get_or-take (e - s) (drop s words) i 0 k ∙
      (get_or-drop s words i 0 ∙ (ap (λ (q : ℕ). get_or words (q + i) 0) (omega arith) ∙ sym (part_at size words m i (omega arith)))))
    where
      same : length (take (e - s) (drop s words)) ≡ length (part size words m)
      same =
          simp (length-take, length-drop)
          (shorter e s (length words) (omega arith) ∙ (extent (size * m) size (length words) s e at to ∙ sym (part_length size words m)))

  pub pasted : (w : List ℕ) → length w ≡ e - s → take s words ++ (w ++ drop (e - s) (drop s words)) ≡ with_part size words m w
  unfolding with_part
  pasted w h = go (true_or_false (ltb (length words) (size * m)))
    where
      whole : take s words ++ (w ++ drop (e - s) (drop s words)) ≡ sets words s w
      whole =
          rw (drop-drop (e - s) s words)
          (ap (λ (k : ℕ). take s words ++ (w ++ drop (s + k) words)) (sym h)
          ∙ (sym (append_assoc (take s words) w (drop (s + length w) words)) ∙ sym (sets-eq w words s (omega arith))))

      nothing : (v : List ℕ) (i : ℕ) → length v ≡ 0 → sets words i v ≡ words
      nothing [] i z = refl
      nothing (a ∷ v) i z = absurd (omega arith)

      go : (ltb (length words) (size * m) ≡ true) ⊎ (ltb (length words) (size * m) ≡ false) →
          take s words ++ (w ++ drop (e - s) (drop s words)) ≡ sets words (size * m) w
      go (inl p) =
          let l = ltb-true (length words) (size * m) p in
          whole ∙ (nothing w s (omega arith) ∙ sym (nothing w (size * m) (omega arith)))
      go (inr p) = let l = ltb-false (length words) (size * m) p in whole ∙ ap (λ (k : ℕ). sets words k w) (omega arith)
