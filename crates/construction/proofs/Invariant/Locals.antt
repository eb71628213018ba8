-- The own state of a process in the card: what was put back is what stands there, and every other process stays.
use Prim.Native.Nat.{ℕ, ◌<◌}
use mathlib.Core.Path.{◌≡◌}
use mathlib.Core.Logic.{◌≢◌}
use mathlib.Core.List.{List}
use native.Mathlib.Omega.{arith}
use lib.ListN.{length, get_or, set, length-set}
use lib.Seq.{get_or-set_same, get_or-set_other}
use Rattle.construction.specs.Types.{Card}
use Rattle.construction.specs.Parts.{Local, local_at, with_local}

-- the arrays of local state have 8 places
pub record Eight (t o e n g a s d m : ℕ) : Type 0 where
  pub controls : t ≡ 8
  pub operations : o ≡ 8
  pub exits : e ≡ 8
  pub counts : n ≡ 8
  pub gates_read : g ≡ 8
  pub announcements_read : a ≡ 8
  pub simulations : s ≡ 8
  pub dictionaries : d ≡ 8
  pub masks : m ≡ 8

abbrev pub Sizes : Card → Type 0
Sizes c =
    Eight (length c.controls) (length c.operations) (length c.exits) (length c.counts) (length c.gates_read)
    (length c.announcements_read) (length c.simulations) (length c.dictionaries) (length c.masks)

pub sizes_put : (c : Card) (i : ℕ) (l : Local) → Sizes c → Sizes (with_local c i l)
sizes_put c i l Z = simp length-set Z

set_eight : {A : Type 0} (l : List A) (i : ℕ) (a d : A) → length l ≡ 8 → i < 8 → get_or (set l i a) i d ≡ a
set_eight l i a d e lt = get_or-set_same l i a d (omega arith)

pub local_same : (c : Card) (i : ℕ) (l : Local) → Sizes c → i < 8 → local_at (with_local c i l) i ≡ l
local_same c i l Z lt =
    let record { controls = t; operations = o; exits = e; counts = n; gates_read = g; announcements_read = a; simulations = s; dictionaries = d; masks = m } =
    Z in
    simp set_eight

pub local_other : (c : Card) (i j : ℕ) (l : Local) → j ≢ i → local_at (with_local c i l) j ≡ local_at c j
local_other c i j l ne = simp get_or-set_other
