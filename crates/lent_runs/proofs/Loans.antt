-- Two loans that agree on the first p × w items hold the same card, with a block in which nothing is noted past the last process: 'What stands behind them,
-- and its length, may differ from step to step'.
use Prim.Native.Nat.{ℕ, ◌+◌, ◌-◌, ◌*◌, ◌<◌, ◌≤◌}
use mathlib.Core.Path.{◌≡◌, refl, sym, ◌∙◌, ap}
use mathlib.Core.Bool.{Bool, true, false, cond}
use mathlib.Core.List.{List, ◌++◌}
use native.Mathlib.Omega.{arith}
use native.Mathlib.Nat.{mul-le-mul_left, mul-suc, mul_assoc, mul_comm}
use lib.Dec.{leb, ltb}
use lib.ListN.{length, take, get_or, replicate}
use lib.Seq.{get_or-take}
use borrow.Author.Tests.{ltb-true, ltb-false}
use Rattle.construction.specs.Dictionary.{no_item}
use Rattle.construction.specs.Opening.{fresh, no_contents}
use Rattle.construction.specs.Parts.{with_own}
use Rattle.codes.specs.Types.{Card}
use Rattle.codes.specs.Parts.{word_at}
use Rattle.codes.specs.Codes.{item_of}
use Rattle.codes.proofs.Blocks.{table_same, part_same}
use Rattle.block.specs.Layout.{process_count_in, room_in, noted_in}
use Rattle.block.specs.Cards.{item_place, item_at, dictionary_at, dictionary_in, standing, card_of}
use Rattle.block.proofs.Fitting.{noted_room}
use Rattle.block.proofs.Gets.{empty_at}
use Rattle.loan.specs.Loans.{loan_words}

-- nothing is noted past the last process
abbrev pub NoneNoted : List ℕ → Type 0
NoneNoted b = (i : ℕ) → process_count_in b ≤ i → noted_in b i ≡ 0

-- the items of a process are among the first p × w
pub own_words : (b : List ℕ) (i : ℕ) → i < process_count_in b → (room_in b * i + room_in b) * 3 ≤ loan_words b
own_words b i p =
    let w = room_in b in
    omega (arith, mul-le-mul_left w p, mul-suc w i, mul_assoc 3 (process_count_in b) w, mul_comm (process_count_in b) w)

taken_word : (n : ℕ) (l m : List ℕ) → take n l ≡ take n m → (q : ℕ) → q < n → word_at l q ≡ word_at m q
taken_word n l m e q p = sym (get_or-take n l q 0 p) ∙ (ap (λ (x : List ℕ). get_or x q 0) e ∙ get_or-take n m q 0 p)

module _ (b l m : List ℕ) (same : take (loan_words b) l ≡ take (loan_words b) m) where
  own_same : (i : ℕ) → i < process_count_in b → dictionary_in b l i ≡ dictionary_in b m i
  unfolding dictionary_at
  own_same i p =
      let w = room_in b in
      let n = noted_in b i in
      let room = noted_room b i in
      let end = own_words b i p in
      let e = table_same n (λ k. item_at m (w * i) k) (λ k. item_at l (w * i) k)
      (λ k r. ap item_of (part_same m l (item_place (w * i) k) 3 (λ q s t. taken_word (loan_words b) l m same q (omega arith)))) in
      λ j. record { length = n; items = e j ++ replicate (32 - n) no_item }

  dictionary_same : NoneNoted b → (i : ℕ) → dictionary_in b l i ≡ dictionary_in b m i
  dictionary_same none i = go (ltb i (process_count_in b)) refl
    where
      go : (t : Bool) → ltb i (process_count_in b) ≡ t → dictionary_in b l i ≡ dictionary_in b m i
      go true e = own_same i (ltb-true i (process_count_in b) e)
      go false e = rw (none i (ltb-false i (process_count_in b) e)) (empty_at l (room_in b * i) ∙ sym (empty_at m (room_in b * i)))

  pub same_card_lem : NoneNoted b → card_of b l ≡ card_of b m
  unfolding card_of standing
  same_card_lem none =
      let e = table_same 8 (λ i. dictionary_in b m i) (λ i. dictionary_in b l i) (λ i p. dictionary_same none i) in
      let c = standing b l in
      ap (λ (d : Card). cond (leb 1456 (length b)) d (fresh no_contents))
      (λ j. with_own c c.controls c.operations c.exits c.counts c.gates_read c.announcements_read c.simulations (e j) c.masks)
