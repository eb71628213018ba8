-- The noted variables as a set in one word (document 02, order 1): 'one 64-bit word with bit v set for variable v', built by shift and mask.
use Rattle.std.specs.Prelude.{ℕ, ◌/◌, ◌%◌, ◌^◌, ◌≡◌, true, false, cond, ltb}
use Rattle.std.specs.Int.Bits.{bit_or}
use Rattle.std.specs.Int.Count.{ones}
use Rattle.construction.specs.Types.{Dictionary}
use Rattle.construction.specs.Dictionary.{has}

-- one variable more: `mask | 1 << v`; a word has no bit for a variable past 63
unfoldable pub with_bit : ℕ → ℕ → ℕ
with_bit mask v = cond (ltb v 64) (bit_or mask (2 ^ v)) mask

-- bit v of a word, 0 or 1
abbrev pub bit : ℕ → ℕ → ℕ
bit word v = word / 2 ^ v % 2

-- a word is the set of the variables that stand in a dictionary: bit v is 1 if v is noted there and 0 if it is not, and it has as many ones
-- as the dictionary has items
pub record Marks (word : ℕ) (d : Dictionary) : Type 0 where
  pub noted : (v : ℕ) → has d v ≡ true → bit word v ≡ 1
  pub absent : (v : ℕ) → has d v ≡ false → bit word v ≡ 0
  pub count : ones word ≡ d.length
