-- One item more in the loan is one item more in the dictionary that stands there (specs/Dictionary of construction)
use Prim.Native.Nat.{ℕ, suc, ◌+◌, ◌-◌, ◌*◌, ◌<◌, ◌≤◌}
use mathlib.Core.Path.{◌≡◌, ◌∙◌, ap}
use mathlib.Core.Logic.{inl}
use mathlib.Core.List.{List, ◌++◌}
use native.Mathlib.Omega.{arith}
use lib.ListN.{length, set, replicate}
use borrow.Author.Tests.{lt-ltb}
use Rattle.construction.specs.Dictionary.{no_item, insert}
use Rattle.codes.specs.Types.{Item}
use Rattle.codes.specs.Parts.{stores, table}
use Rattle.codes.specs.Codes.{item_of, item_words}
use Rattle.codes.proofs.Blocks.{kept, part_back, part_same}
use Rattle.codes.proofs.Values.{FitsItem, item_back}
use Rattle.block.specs.Cards.{item_place, item_at, dictionary_at}
use Rattle.loan.proofs.Tables.{table_more}

module _ (l : List ℕ) (base n : ℕ) (e : Item) (fits : FitsItem e) (room : n < 32) (long : (base + suc n) * 3 ≤ length l) where
  after : List ℕ
  after = stores l ((base + n) * 3) (item_words e)

  items_is : table (suc n) (λ k. item_at after base k) ++ replicate (32 - suc n) no_item ≡ set (table n (λ k. item_at l base k) ++ replicate (32 - n) no_item) n e
  unfolding after
  items_is =
      let s : 32 - n ≡ suc (32 - suc n) = omega arith in
      rw s
      (table_more no_item (32 - suc n) n (λ k. item_at l base k) (λ k. item_at after base k) e
      (ap item_of (part_back l ((base + n) * 3) (item_words e) (omega arith)) ∙ item_back e fits)
      (λ k p. ap item_of (part_same l after (item_place base k) 3 (λ q r t. kept l ((base + n) * 3) (item_words e) q (inl (omega arith))))))

  pub item_more : dictionary_at (stores l ((base + n) * 3) (item_words e)) base (suc n) ≡ insert (dictionary_at l base n) e
  unfolding dictionary_at insert after
  item_more = let k = items_is in rw (lt-ltb n 32 room) (λ j. record { length = suc n; items = k j })
