-- The answer by the tests that decide it, and the lines of the table as series of pieces
use Prim.Native.Nat.{ℕ, suc, ◌+◌, ◌-◌, ◌≤◌, ◌<◌}
use mathlib.Core.Path.{◌≡◌, refl, ap, ◌∙◌}
use native.Mathlib.Omega.{arith}
use borrow.Author.Tests.{lt-ltb, le-ltb}
use lib.ListN.{length}
use Rattle.std.specs.Prelude.{Some, None}
use Rattle.grammar.specs.Writing.{decimals, decimal, field_text}
use Rattle.construction.specs.Waits.{longest_wait}
use Rattle.construction.proofs.Text.Writing.{Series}
use Rattle.wait_table.specs.Table.{wait_for, separator, row_text, rows_text, table_text}

module _ (p w : ℕ) where
  pub no_process : p ≡ 0 → None ≡ wait_for p w
  unfolding wait_for
  no_process e = rw (le-ltb 0 p (omega arith))

  module _ (some : 0 < p) where
    pub many_processes : 8 < p → None ≡ wait_for p w
    unfolding wait_for
    many_processes h = rw (lt-ltb 0 p some, le-ltb p 9 (omega arith))

    module _ (few : p ≤ 8) where
      pub too_heavy_lem : 32 < w → None ≡ wait_for p w
      unfolding wait_for
      too_heavy_lem h = rw (lt-ltb 0 p some, lt-ltb p 9 (omega arith), le-ltb w 33 (omega arith))

      pub there : w ≤ 32 → Some (longest_wait p w) ≡ wait_for p w
      unfolding wait_for
      there h = rw (lt-ltb 0 p some, lt-ltb p 9 (omega arith), lt-ltb w 33 (omega arith))

      pub read_there : {n : ℕ} → w ≤ 32 → n ≡ longest_wait (p - 1 + 1) w → Some n ≡ wait_for p w
      read_there h e =
          let z : p - 1 + 1 ≡ p = omega arith in
          ap Some (e ∙ ap (λ (k : ℕ). longest_wait k w) z) ∙ there h

-- the numbers of a line, and the lines
pub row_series : (p : ℕ) → Series (λ m w. row_text p m w) (λ w. field_text (separator w) (longest_wait p w))
unfolding row_text
row_series p = record { none = λ w. refl; more = λ m w. refl }

pub rows_series : Series rows_text (λ k. row_text (suc k) 33 0)
unfolding rows_text
rows_series = record { none = λ k. refl; more = λ m k. refl }

-- the text of the whole table fits a page
pub table_length : length table_text ≡ 1007
unfolding rows_text row_text decimal decimals
table_length = refl
