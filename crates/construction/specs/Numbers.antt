-- The gate number in an announcement (document 02, order 4), after any list of entries: 'An announcement turned done shall also hold the gate number
-- under which it was done (0 while active or exit, and at opening)'.
use Rattle.std.specs.Prelude.{ℕ, ◌≤◌, ◌<◌, ◌≡◌, Bool, true, false, cond, ◌≢◌, List, [], ◌∷◌, length, eqb}
use Rattle.construction.specs.Types.{Done}
use Rattle.construction.specs.Cells.{no_yield}
use Rattle.construction.specs.Parts.{announcement_at}
use Rattle.construction.specs.History.{Invocation, Finish, Observation}

-- the process of an operation
unfoldable pub caller_of : List Invocation → ℕ → ℕ
caller_of [] k = 0
caller_of (x ∷ xs) k = cond (eqb (length xs) k) x.process (caller_of xs k)

-- the latest finished operation of a process, with its gate number and what the bench got for it: number 0, outputs 0 and no mark if it has
-- none; and whether it has one
unfoldable pub latest_finish : List Invocation → List Finish → ℕ → Finish
latest_finish xs [] i = record { operation = 0; gate = 0; yields = no_yield }
latest_finish xs (f ∷ fs) i = cond (eqb (caller_of xs f.operation) i) f (latest_finish xs fs i)

unfoldable pub has_finished : List Invocation → List Finish → ℕ → Bool
has_finished xs [] i = false
has_finished xs (f ∷ fs) i = cond (eqb (caller_of xs f.operation) i) true (has_finished xs fs i)

pub record NumbersKept (m : Observation) : Type 0 where
  -- it never passes the gate's number
  pub below : (i : ℕ) → (announcement_at m.card i).number ≤ m.card.gate.seq
  -- while the flag is not done it is 0
  pub unfinished : (i : ℕ) → (announcement_at m.card i).flag ≢ Done → (announcement_at m.card i).number ≡ 0
  -- while the flag is done it is that of the process's latest finished operation ..
  pub finished :
      (i : ℕ) → i < m.card.process_count → (announcement_at m.card i).flag ≡ Done →
      (announcement_at m.card i).number ≡ (latest_finish m.history.operations m.history.order i).gate
  -- .. and so 0 exactly if no operation of the process has finished yet
  pub never :
      (i : ℕ) → i < m.card.process_count → (announcement_at m.card i).flag ≡ Done →
      ((announcement_at m.card i).number ≡ 0 → has_finished m.history.operations m.history.order i ≡ false)
      × (has_finished m.history.operations m.history.order i ≡ false → (announcement_at m.card i).number ≡ 0)
