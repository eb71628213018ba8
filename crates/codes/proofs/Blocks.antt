-- Parts of a block: what was stored is read again, and what lies apart is kept. One law each, over the place, the size and the decoding.
use Prim.Native.Nat.{ℕ, zero, suc, ◌+◌, ◌*◌, ◌<◌, ◌≤◌}
use mathlib.Core.Path.{◌≡◌, refl, sym, ◌∙◌, ap}
use mathlib.Core.Logic.{◌≢◌, ◌⊎◌, inl, inr, ⊎_elim}
use mathlib.Core.List.{List, [], ◌∷◌}
use native.Mathlib.Omega.{arith}
use native.Mathlib.Nat.{mul-le-mul_left, mul-suc}
use lib.ListN.{length, get_or, set, length-set, get_or-eq_default}
use lib.Seq.{get_or-set_same, get_or-set_other, set_out}
use lib.Dec.{ltb}
use borrow.Author.Tests.{ltb-true, ltb-false}
use native.Mathlib.Numerals.{lt_of_le_of_ne}
use mathlib.Core.Bool.{Bool, true, false, cond}
use Rattle.codes.specs.Parts.{word_at, place, part_from, stores_from, part, stores, table, rows}

pub place_is : (at k : ℕ) → place at k ≡ at + k
place_is at zero = omega arith
place_is at (suc k) = refl

pub length-stores_from : (b : List ℕ) (at k : ℕ) (l : List ℕ) → length (stores_from b at k l) ≡ length b
length-stores_from b at k [] = refl
length-stores_from b at k (x ∷ l) = length-stores_from (set b (place at k) x) at (suc k) l ∙ length-set b (place at k) x

pub length_stores : (b : List ℕ) (at : ℕ) (l : List ℕ) → length (stores b at l) ≡ length b
length_stores b at l = length-stores_from b at 0 l

-- a word that lies apart
word_kept : (b : List ℕ) (at k : ℕ) (l : List ℕ) (q : ℕ) → (q < at + k) ⊎ (at + k + length l ≤ q) → word_at (stores_from b at k l) q ≡ word_at b q
word_kept b at k [] q h = refl
word_kept b at k (x ∷ l) q h =
    let e = place_is at k in
    word_kept (set b (place at k) x) at (suc k) l q (⊎_elim (λ (p : q < at + k). inl (omega arith)) (λ (p : at + k + suc (length l) ≤ q). inr (omega arith)) h)
    ∙ get_or-set_other b (place at k) q x 0 (λ z. ⊎_elim (λ (p : q < at + k). omega arith) (λ (p : at + k + suc (length l) ≤ q). omega arith) h)

pub kept : (b : List ℕ) (at : ℕ) (l : List ℕ) (q : ℕ) → (q < at) ⊎ (at + length l ≤ q) → word_at (stores b at l) q ≡ word_at b q
kept b at l q h = word_kept b at 0 l q (⊎_elim (λ (p : q < at). inl (omega arith)) (λ (p : at + length l ≤ q). inr (omega arith)) h)

-- what was stored is read again
back : (b : List ℕ) (at k : ℕ) (l : List ℕ) → at + k + length l ≤ length b → part_from (stores_from b at k l) at k (length l) ≡ l
back b at k [] h = refl
back b at k (x ∷ l) h =
    let e = place_is at k in
    let c = set b (place at k) x in
    let long : length c ≡ length b = length-set b (place at k) x in
    let here : word_at (stores_from c at (suc k) l) (place at k) ≡ x =
    word_kept c at (suc k) l (place at k) (inl (omega arith)) ∙ get_or-set_same b (place at k) x 0 (omega arith) in
    let rest = back c at (suc k) l (omega arith) in
    λ j. here j ∷ rest j

pub part_back : (b : List ℕ) (at : ℕ) (l : List ℕ) → at + length l ≤ length b → part (stores b at l) at (length l) ≡ l
part_back b at l h = back b at 0 l (omega arith)

-- past the end every part is the same one, of zeros, and nothing is stored
part_from-past : (b : List ℕ) (at q k n : ℕ) → length b ≤ at → length b ≤ q → part_from b q k n ≡ part_from b at k n
part_from-past b at q k zero h p = refl
part_from-past b at q k (suc n) h p =
    let e = place_is at k in
    let f = place_is q k in
    let here : word_at b (place q k) ≡ word_at b (place at k) =
    get_or-eq_default b 0 {n = place q k} (omega arith) ∙ sym (get_or-eq_default b 0 {n = place at k} (omega arith)) in
    let rest = part_from-past b at q (suc k) n h p in
    λ j. here j ∷ rest j

stores_from-past : (b : List ℕ) (at k : ℕ) (l : List ℕ) → length b ≤ at → stores_from b at k l ≡ b
stores_from-past b at k [] h = refl
stores_from-past b at k (x ∷ l) h =
    let e = place_is at k in
    ap (λ (c : List ℕ). stores_from c at (suc k) l) (set_out b (place at k) x (omega arith)) ∙ stores_from-past b at (suc k) l h

-- so a place may be any one past the end where it is past the end
module _ (b : List ℕ) (at q : ℕ) (h : (q ≡ at) ⊎ ((length b ≤ at) × (length b ≤ q))) where
  pub part_at : (n : ℕ) → part b q n ≡ part b at n
  part_at n = ⊎_elim (λ (e : q ≡ at). ap (λ (p : ℕ). part b p n) e) (λ (p : (length b ≤ at) × (length b ≤ q)). part_from-past b at q 0 n p.0 p.1) h

  pub stores_at : (l : List ℕ) → stores b q l ≡ stores b at l
  stores_at l = ⊎_elim (λ (e : q ≡ at). ap (λ (p : ℕ). stores b p l) e)
      (λ (p : (length b ≤ at) × (length b ≤ q)). stores_from-past b q 0 l p.1 ∙ sym (stores_from-past b at 0 l p.0)) h

-- two blocks that agree on the words of a part have the same part
part_from-same : (b c : List ℕ) (at k n : ℕ) → ((q : ℕ) → at + k ≤ q → q < at + k + n → word_at c q ≡ word_at b q) → part_from c at k n ≡ part_from b at k n
part_from-same b c at k zero h = refl
part_from-same b c at k (suc n) h =
    let e = place_is at k in
    let here : word_at c (place at k) ≡ word_at b (place at k) = h (place at k) (omega arith) (omega arith) in
    let rest = part_from-same b c at (suc k) n (λ q r s. h q (omega arith) (omega arith)) in
    λ j. here j ∷ rest j

pub part_same : (b c : List ℕ) (at n : ℕ) → ((q : ℕ) → at ≤ q → q < at + n → word_at c q ≡ word_at b q) → part c at n ≡ part b at n
part_same b c at n h = part_from-same b c at 0 n (λ q r s. h q (omega arith) (omega arith))

lt_or_gt : (i k : ℕ) → k ≢ i → (i < k) ⊎ (k < i)
lt_or_gt i k n = go (ltb i k) refl
  where
    go : (t : Bool) → ltb i k ≡ t → (i < k) ⊎ (k < i)
    go true e = inl (ltb-true i k e)
    go false e = inr (lt_of_le_of_ne (ltb-false i k e) n)

pub inside : (base size n k : ℕ) → k < n → base + size * k + size ≤ base + size * n
inside base size n k p = omega (arith, mul-le-mul_left size p, mul-suc size k)

pub apart : (size i k : ℕ) → k ≢ i → (size * i + size ≤ size * k) ⊎ (size * k + size ≤ size * i)
apart size i k n = go (lt_or_gt i k n)
  where
    go : (i < k) ⊎ (k < i) → (size * i + size ≤ size * k) ⊎ (size * k + size ≤ size * i)
    go (inl p) = inl (omega (arith, mul-le-mul_left size p, mul-suc size i))
    go (inr p) = inr (omega (arith, mul-le-mul_left size p, mul-suc size k))

-- tables
module _ {A : Type 0} where
  pub length_table : (n : ℕ) (f : ℕ → A) → length (table n f) ≡ n
  unfolding table
  length_table zero f = refl
  length_table (suc n) f = ap suc (length_table n (λ k. f (suc k)))

  pub table_same : (n : ℕ) (f g : ℕ → A) → ((k : ℕ) → k < n → g k ≡ f k) → table n g ≡ table n f
  unfolding table
  table_same zero f g h = refl
  table_same (suc n) f g h =
      let e = table_same n (λ k. f (suc k)) (λ k. g (suc k)) (λ k p. h (suc k) (omega arith)) in
      let z : g 0 ≡ f 0 = h 0 (omega arith) in
      λ j. z j ∷ e j

  pub table_set : (n i : ℕ) (f g : ℕ → A) (a : A) → i < n → g i ≡ a → ((k : ℕ) → k < n → k ≢ i → g k ≡ f k) → table n g ≡ set (table n f) i a
  unfolding table
  table_set zero i f g a p e h = absurd (omega arith)
  table_set (suc n) zero f g a p e h =
      let r = table_same n (λ k. f (suc k)) (λ k. g (suc k)) (λ k q. h (suc k) (omega arith) (λ z. omega arith)) in
      λ j. e j ∷ r j
  table_set (suc n) (suc i) f g a p e h =
      let r = table_set n i (λ k. f (suc k)) (λ k. g (suc k)) a (omega arith) e (λ k q ne. h (suc k) (omega arith) (λ z. ne (omega arith))) in
      let z : g 0 ≡ f 0 = h 0 (omega arith) (λ z. omega arith) in
      λ j. z j ∷ r j

  pub get_or_table : (n i : ℕ) (f : ℕ → A) (d : A) → i < n → get_or (table n f) i d ≡ f i
  unfolding table
  get_or_table zero i f d p = absurd (omega arith)
  get_or_table (suc n) zero f d p = refl
  get_or_table (suc n) (suc i) f d p = get_or_table n i (λ k. f (suc k)) d (omega arith)

  -- an element of a table, or the default past it
  pub table_or : (n k : ℕ) (f : ℕ → A) (d : A) → get_or (table n f) k d ≡ cond (ltb k n) (f k) d
  table_or n k f d = go (ltb k n) refl
    where
      go : (t : Bool) → ltb k n ≡ t → get_or (table n f) k d ≡ cond t (f k) d
      go true e = get_or_table n k f d (ltb-true k n e)
      go false e = get_or-eq_default (table n f) d (let z = length_table n f in let y = ltb-false k n e in omega arith)

  -- rows: one replaced, and all kept
  pub rows_set :
      (b : List ℕ) (base n : ℕ) (decode : List ℕ → A) (i : ℕ) (l : List ℕ) → i < n → base + length l * n ≤ length b →
      rows (stores b (base + length l * i) l) base (length l) n decode ≡ set (rows b base (length l) n decode) i (decode l)
  rows_set b base n decode i l p h =
      let size = length l in
      let c = stores b (base + size * i) l in
      let room = inside base size n i p in
      table_set n i (λ k. decode (part b (base + size * k) size)) (λ k. decode (part c (base + size * k) size)) (decode l) p
      (ap decode (part_back b (base + size * i) l (omega arith)))
      (λ k q ne. ap decode (part_same b c (base + size * k) size (λ w r s. kept b (base + size * i) l w
      (⊎_elim (λ (z : size * i + size ≤ size * k). inr (omega arith)) (λ (z : size * k + size ≤ size * i). inl (omega arith)) (apart size i k ne)))))

  pub rows_same :
      (b c : List ℕ) (base size n : ℕ) (decode : List ℕ → A) → ((q : ℕ) → base ≤ q → q < base + size * n → word_at c q ≡ word_at b q) →
      rows c base size n decode ≡ rows b base size n decode
  rows_same b c base size n decode h =
      table_same n (λ k. decode (part b (base + size * k) size)) (λ k. decode (part c (base + size * k) size))
      (λ k p. let room = inside base size n k p in ap decode (part_same b c (base + size * k) size (λ q r s. h q (omega arith) (omega arith))))
