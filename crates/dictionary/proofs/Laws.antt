-- The dictionary by the tests that decide it, over plain values
use Prim.Native.Nat.{ℕ, ◌+◌, ◌*◌, ◌%◌, ◌^◌, ◌<◌, ◌≤◌}
use mathlib.Core.Bool.{true, false, not}
use mathlib.Core.Path.{◌≡◌, sym, ◌∙◌}
use native.Mathlib.Omega.{arith}
use native.Mathlib.Numerals.{add-one}
use native.Mathlib.Nat.{one-mul}
use lib.Bits.{bit_or}
use lib.Pow.{shl_exact}
use lib.Dec.{eqb, ltb}
use lib.ListN.{length, get_or, set, length-take, drop_of_length-le}
use lib.Seq.{drop-cons, get_or-take}
use borrow.Author.Tests.{lt-ltb, le-ltb}
use Rattle.construction.specs.declared.{cells.Record.Record, simulations.Item.Item, simulations.Dictionary.Dictionary}
use Rattle.construction.specs.Cells.{current, previous}
use Rattle.construction.specs.Dictionary.{no_item, noted, value_under, insert, altered, unaltered, next_write}
use Rattle.construction.specs.Marks.{with_bit}

-- an item inserted, and the items noted
module _ (d : Dictionary) where
  pub insert_more : (e : Item) → d.length < 32 →
      ◌≡◌ {A = Dictionary} (record { length = d.length + 1; items = set d.items d.length e }) (insert d e)
  unfolding insert
  insert_more e p = rw (lt-ltb _ _ p, add-one)

  pub insert_full : (e : Item) → 32 ≤ d.length → d ≡ insert d e
  unfolding insert
  insert_full e p = rw (le-ltb _ _ p)

  noted_length : (k : ℕ) → k < length (noted d) → k < d.length
  noted_length k p = omega (arith, length-take d.length d.items)

  noted_at_lem : (k : ℕ) → k < length (noted d) → get_or (noted d) k no_item ≡ get_or d.items k no_item
  noted_at_lem k p = get_or-take d.length d.items k no_item (noted_length k p)

-- the value of a record, and whether an item is altered, by seq
module _ (seq : ℕ) (r : Record) (x : ℕ) where
  pub under_lower : r.seq < seq → x ≡ current r → x ≡ value_under seq r
  unfolding value_under
  under_lower p e = rw (lt-ltb _ _ p) e

  pub under_equal : seq ≤ r.seq → x ≡ previous r → x ≡ value_under seq r
  unfolding value_under
  under_equal p e = rw (le-ltb _ _ p) e

module _ (seq : ℕ) (e : Item) where
  pub altered_not : seq ≤ e.cell.seq → ltb e.cell.seq seq ≡ altered seq e
  unfolding altered
  altered_not p = rw (le-ltb _ _ p)

  pub altered_by : (x : ℕ) → e.cell.seq < seq → x ≡ current e.cell → not (eqb x e.value) ≡ altered seq e
  unfolding altered
  altered_by x p q = rw (lt-ltb _ _ p, q)

-- how many items stand before the first that is altered
module _ (seq : ℕ) (d : Dictionary) (k total : ℕ) (sought : total ≡ next_write seq d k) where
  pub write_here : k < length (noted d) → altered seq (get_or d.items k no_item) ≡ true → k ≡ total
  unfolding next_write unaltered
  write_here p h = sym (sought ∙ rw (drop-cons (noted d) k no_item p, noted_at_lem d k p, h) (omega arith))

  pub write_more : k < length (noted d) → altered seq (get_or d.items k no_item) ≡ false → total ≡ next_write seq d (k + 1)
  unfolding next_write unaltered
  write_more p h = sought ∙ rw (add-one k, drop-cons (noted d) k no_item p, noted_at_lem d k p, h) (omega arith)

  pub write_end : length (noted d) ≤ k → k ≡ total
  unfolding next_write unaltered
  write_end p = sym (sought ∙ rw (drop_of_length-le (noted d) p) (omega arith))

-- a variable put into the set of the variables noted
pub bit_more : (mask v : ℕ) → v < 64 → bit_or mask ((1 * 2 ^ v) % 2 ^ 64) ≡ with_bit mask v
unfolding with_bit
bit_more mask v p = rw (lt-ltb v 64 p, shl_exact {a = 1} 1 v 64 (omega arith) (omega arith), one-mul (2 ^ v))

pub bit_past : (mask v : ℕ) → 64 ≤ v → mask ≡ with_bit mask v
unfolding with_bit
bit_past mask v p = rw (le-ltb v 64 p)
