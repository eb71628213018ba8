-- The sums of codes 7 and 8 stop at the ends of a word (document 02, order 2).
use Prim.Native.Nat.{ℕ, ◌+◌, ◌≤◌}
use mathlib.Core.Path.{◌≡◌}
use native.Mathlib.Omega.{arith}
use Rattle.construction.specs.Instructions.{sum, difference}

module _ (x y : ℕ) where
  -- never past the end of a word
  pub sum_most : sum x y ≤ 4294967295
  unfolding sum
  sum_most = omega arith

  pub difference_most : x ≤ 4294967295 → difference x y ≤ 4294967295
  unfolding difference
  difference_most h = omega arith

  -- the plain sum and difference wherever they fit, ..
  pub sum_plain : x + y ≤ 4294967295 → sum x y ≡ x + y
  unfolding sum
  sum_plain h = omega arith

  pub difference_plain : y ≤ x → difference x y + y ≡ x
  unfolding difference
  difference_plain h = omega arith

  -- .. and the end itself where they do not
  pub sum_end : 4294967295 ≤ x + y → sum x y ≡ 4294967295
  unfolding sum
  sum_end h = omega arith

  pub difference_end : x ≤ y → difference x y ≡ 0
  unfolding difference
  difference_end h = omega arith
