-- The items of a dictionary in the loan, their numbers taken out, and their values put back
use Prim.Native.Nat.{ℕ, zero, suc, ◌+◌, ◌-◌, ◌*◌, ◌/◌, ◌<◌, ◌≤◌}
use mathlib.Core.Path.{◌≡◌, refl, sym, ◌∙◌, ap}
use mathlib.Core.Logic.{◌≢◌}
use mathlib.Core.Bool.{Bool, true, false}
use mathlib.Core.List.{List, [], ◌∷◌, ◌++◌}
use native.Mathlib.Omega.{arith}
use native.Mathlib.Numerals.{add-one, lt_of_le_of_ne}
use lib.Dec.{eqb}
use lib.ListN.{length, get_or, take, replicate, length-set, length-take, length-append, get_or-append}
use lib.Seq.{get_or-set_same, get_or-set_other}
use borrow.Author.Tests.{eqb-true, eqb-false, le-ltb}
use Rattle.construction.specs.Dictionary.{no_item, noted, with_value, next_write}
use Rattle.construction.specs.Machine.{write_control, write_from}
use Rattle.helping.specs.Numbers.{revalued, with_values, Numbered}
use Rattle.codes.specs.Types.{Item, Control}
use Rattle.codes.specs.Parts.{word_at, table}
use Rattle.codes.specs.Codes.{byte, half, odd, bit, pair, upper, item_of}
use Rattle.codes.proofs.Blocks.{length_table, table_same, get_or_table}
use Rattle.codes.proofs.Values.{lower_pair, upper_pair, bit_small}
use Rattle.block.specs.Cards.{item_at, dictionary_at}
use Rattle.loan.specs.Items.{keys_at, values_at, put_value, put_values}
use Rattle.loan.proofs.Tables.{table_past, table_taken, table_mapped}

pub bit_result : (r : ℕ) (t : Bool) → r ≡ bit t → r < 2
bit_result r t e = let s = bit_small t in omega arith

module _ (l : List ℕ) (base n : ℕ) where
  pub noted_length : n ≤ 32 → n ≡ length (noted (dictionary_at l base n))
  unfolding dictionary_at
  noted_length p =
      let t = length_table n (λ k. item_at l base k) in
      sym
      (length-take n (table n (λ k. item_at l base k) ++ replicate (32 - n) no_item) ∙ rw
      (length-append (table n (λ k. item_at l base k)) (replicate (32 - n) no_item), t) (omega arith))

  pub item_is : (k : ℕ) → k < n → get_or (dictionary_at l base n).items k no_item ≡ item_at l base k
  unfolding dictionary_at
  item_is k p =
      let t = length_table n (λ k. item_at l base k) in
      get_or-append (table n (λ k. item_at l base k)) (replicate (32 - n) no_item) no_item k (rw t p) ∙ get_or_table n k (λ k. item_at l base k) no_item p

  pub item_past : (k : ℕ) → n ≤ k → no_item ≡ get_or (dictionary_at l base n).items k no_item
  unfolding dictionary_at
  item_past k p = sym (table_past no_item n (λ k. item_at l base k) (32 - n) k p)

  pub numbered : n ≤ 32 → Numbered (keys_at l base n) (values_at l base n) n (dictionary_at l base n)
  unfolding dictionary_at
  numbered p =
      record {
        keyed = table_taken n (λ k. (item_at l base k).variable) (replicate (32 - n) 0) ∙ sym
            (table_mapped (λ (x : Item). x.variable) n (λ k. item_at l base k) (replicate (32 - n) no_item));
        valued = table_taken n (λ k. (item_at l base k).value) (replicate (32 - n) 0) ∙ sym
            (table_mapped (λ (x : Item). x.value) n (λ k. item_at l base k) (replicate (32 - n) no_item));
        count = noted_length p;
      }

  -- where a helper goes on that wrote item k
  module _ (narrow : n ≤ 32) (seq k : ℕ) where
    pub writes_on : (next : ℕ) → next ≡ next_write seq (dictionary_at l base n) (k + 1) → (t : Control) → t ≡ write_control next n →
        t ≡ write_from seq (dictionary_at l base n) (suc k)
    writes_on next en t et =
        let e : next ≡ next_write seq (dictionary_at l base n) (suc k) = en ∙ ap (next_write seq (dictionary_at l base n)) (add-one k) in
        let c = noted_length narrow in
        et ∙ (λ j. write_control (e j) (c j))

    pub writes_none : n ≤ k → (t : Control) → t ≡ write_control 0 0 → t ≡ write_from seq (dictionary_at l base n) (suc k)
    unfolding next_write
    writes_none p t et =
        let c = noted_length narrow in
        et ∙ rw (le-ltb (next_write seq (dictionary_at l base n) (suc k)) (length (noted (dictionary_at l base n))) (omega arith))

-- values put into the loan, one after the other
pub values_start : (l : List ℕ) (base : ℕ) (xs : List ℕ) → l ≡ put_values l base 0 xs
unfolding put_values
values_start l base xs = refl

pub values_more :
    (l m after : List ℕ) (base k : ℕ) (xs : List ℕ) → m ≡ put_values l base k xs → after ≡ put_value m (base + k) (get_or xs k 0) →
    after ≡ put_values l base (k + 1) xs
unfolding put_values
values_more l m after base k xs e f = f ∙ rw (e, add-one k)

pub values_length : (l : List ℕ) (base n : ℕ) (xs : List ℕ) → length (put_values l base n xs) ≡ length l
unfolding put_values
values_length l base zero xs = refl
values_length l base (suc n) xs = length-set (put_values l base n xs) ((base + n) * 3 + 2) _ ∙ values_length l base n xs

-- only the first values count
pub values_same :
    (l : List ℕ) (base n : ℕ) (xs ys : List ℕ) → ((k : ℕ) → k < n → get_or xs k 0 ≡ get_or ys k 0) → put_values l base n xs ≡ put_values l base n ys
unfolding put_values
values_same l base zero xs ys h = refl
values_same l base (suc n) xs ys h =
    let e = values_same l base n xs ys (λ k p. h k (omega arith)) in
    let v = h n (omega arith) in
    λ j. put_value (e j) (base + n) (v j)

pub below_or_last : (P : ℕ → Type 0) (k : ℕ) → ((j : ℕ) → j < k → P j) → P k → (j : ℕ) → j < k + 1 → P j
below_or_last P k h z j p = go (eqb j k) refl
  where
    go : (t : Bool) → eqb j k ≡ t → P j
    go true e = rw (eqb-true j k e) z
    go false e = h j (lt_of_le_of_ne (omega arith) (eqb-false j k e))

module _ (l : List ℕ) (base : ℕ) (xs : List ℕ) where
  -- words apart are kept
  pub values_kept : (n q : ℕ) → ((k : ℕ) → k < n → q ≢ (base + k) * 3 + 2) → word_at (put_values l base n xs) q ≡ word_at l q
  unfolding put_values
  values_kept zero q h = refl
  values_kept (suc n) q h =
      get_or-set_other (put_values l base n xs) ((base + n) * 3 + 2) q _ 0 (h n (omega arith)) ∙ values_kept n q (λ k p. h k (omega arith))

  -- the word of an item
  value_word :
      (n k : ℕ) → k < n → (base + n) * 3 ≤ length l →
      word_at (put_values l base n xs) ((base + k) * 3 + 2) ≡ pair (get_or xs k 0) (upper (word_at l ((base + k) * 3 + 2)))
  unfolding put_values
  value_word zero k p h = absurd (omega arith)
  value_word (suc n) k p h = go (eqb k n) refl (λ q. value_word n k q (omega arith))
    where
      go :
          (t : Bool) → eqb k n ≡ t → (k < n → word_at (put_values l base n xs) ((base + k) * 3 + 2) ≡ pair (get_or xs k 0) (upper (word_at l ((base + k) * 3 + 2))))
          →
          word_at (put_value (put_values l base n xs) (base + n) (get_or xs n 0)) ((base + k) * 3 + 2) ≡ pair (get_or xs k 0) (upper (word_at l ((base + k) * 3 + 2)))
      go true e before =
          let z = eqb-true k n e in
          let s = values_length l base n xs in
          rw z (get_or-set_same (put_values l base n xs) ((base + n) * 3 + 2) _ 0 (omega arith)
          ∙ ap (λ (w : ℕ). pair (get_or xs n 0) (upper w)) (values_kept n ((base + n) * 3 + 2) (λ j q r. omega arith)))
      go false e before =
          let ne = eqb-false k n e in
          get_or-set_other (put_values l base n xs) ((base + n) * 3 + 2) ((base + k) * 3 + 2) _ 0 (λ z. ne (omega arith))
          ∙ before (lt_of_le_of_ne (omega arith) ne)

  item_revalued :
      (n k : ℕ) → k < n → (base + n) * 3 ≤ length l → get_or xs k 0 < 4294967296 →
      item_at (put_values l base n xs) base k ≡ with_value (item_at l base k) (get_or xs k 0)
  item_revalued n k p h s =
      let w2 = value_word n k p h in
      let w0 = values_kept n ((base + k) * 3) (λ j q r. omega arith) in
      let w1 = values_kept n ((base + k) * 3 + 1) (λ j q r. omega arith) in
      let high = upper_pair (get_or xs k 0) (upper (word_at l ((base + k) * 3 + 2))) s in
      let low = lower_pair (get_or xs k 0) (upper (word_at l ((base + k) * 3 + 2))) s in
      (λ i. item_of (w0 i ∷ w1 i ∷ w2 i ∷ []))
      ∙ (λ i. record {
        variable = byte (high i);
        value = low i;
        cell = record {
          val0 = half (word_at l ((base + k) * 3 + 1));
          val1 = half (upper (word_at l ((base + k) * 3 + 1)));
          toggle = odd (high i / 256);
          seq =
              word_at l ((base + k) * 3);
        };
      })

revalued_rest : (r : List Item) → revalued r [] ≡ r
unfolding revalued
revalued_rest [] = refl
revalued_rest (e ∷ r) = refl

revalued_table :
    (n : ℕ) (f : ℕ → Item) (xs : List ℕ) (r : List Item) → n ≤ length xs →
    revalued (table n f ++ r) (take n xs) ≡ table n (λ k. with_value (f k) (get_or xs k 0)) ++ r
unfolding revalued table
revalued_table zero f xs r p = revalued_rest r
revalued_table (suc n) f [] r p = absurd (omega arith)
revalued_table (suc n) f (x ∷ xs) r p = rw (revalued_table n (λ k. f (suc k)) xs r (omega arith))

-- a dictionary whose values were put back
pub values_are :
    (l : List ℕ) (base n : ℕ) (xs : List ℕ) → (base + n) * 3 ≤ length l → n ≤ length xs → ((k : ℕ) → k < n → get_or xs k 0 < 4294967296) →
    dictionary_at (put_values l base n xs) base n ≡ with_values (dictionary_at l base n) (take n xs)
unfolding dictionary_at
values_are l base n xs h p s =
    let e = table_same n (λ k. with_value (item_at l base k) (get_or xs k 0)) (λ k. item_at (put_values l base n xs) base k)
    (λ k q. item_revalued l base xs n k q h (s k q)) in
    let f = revalued_table n (λ k. item_at l base k) xs (replicate (32 - n) no_item) p in
    λ i. record { length = n; items = (ap (λ (t : List Item). t ++ replicate (32 - n) no_item) e ∙ sym f) i }
