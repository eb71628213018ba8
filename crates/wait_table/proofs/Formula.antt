-- The formula of the longest wait over the whole table, and at each entry
use Prim.Native.Nat.{ℕ, ◌+◌, ◌*◌, ◌/◌, ◌%◌, ◌<◌}
use mathlib.Core.List.{List}
use mathlib.Core.Bool.{Bool, true}
use mathlib.Core.Path.{◌≡◌, ap, ◌∙◌}
use native.Mathlib.Omega.{arith}
use lib.Dec.{eqb}
use lib.ListN.{length, get_or}
use borrow.Author.Tests.{eqb-true}
use Rattle.construction.specs.Waits.{longest_wait}
use Rattle.wait_table.proofs.Tables.{every, at}

-- the number at place k is that for p = k / 33 + 1 and w = k % 33
unfoldable pub right : ℕ → ℕ → Bool
right k x = eqb x (longest_wait (k / 33 + 1) (k % 33))

-- at the place of p = row + 1 and w
module _ (xs : List ℕ) (tested : every right 0 xs ≡ true) (sized : length xs ≡ 264) (row w : ℕ) (few : row < 8) (h : w < 33) where
  pub carried : get_or xs (row * 33 + w) 0 ≡ longest_wait (row + 1) w
  unfolding right
  carried =
      let p : (row * 33 + w) / 33 ≡ row = omega arith in
      let q : (row * 33 + w) % 33 ≡ w = omega arith in
      eqb-true (get_or xs (row * 33 + w) 0) _ (at right xs tested (row * 33 + w) (omega arith))
      ∙ (ap (λ (k : ℕ). longest_wait (k + 1) ((row * 33 + w) % 33)) p ∙ ap (longest_wait (row + 1)) q)
