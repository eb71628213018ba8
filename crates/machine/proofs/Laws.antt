-- The choices between places by the tests that decide them, over plain values
use Prim.Native.Nat.{ℕ, ◌%◌, ◌≤◌, ◌<◌}
use mathlib.Core.Path.{◌≡◌}
use native.Mathlib.Nat.{mod-lt}
use native.Mathlib.Omega.{arith}
use borrow.Author.Tests.{lt-ltb, le-ltb}
use Rattle.construction.specs.Machine.{first_choice}

module _ (seq p : ℕ) where
  pub choice_small : 0 < p → p < 256 → seq % p < 256
  choice_small h k = omega (arith, mod-lt seq h)

  pub choice_of : 0 < p → seq % p ≡ first_choice seq p
  unfolding first_choice
  choice_of h = rw (lt-ltb _ _ h)

  pub choice_none : p ≤ 0 → 0 ≡ first_choice seq p
  unfolding first_choice
  choice_none h = rw (le-ltb _ _ h)
