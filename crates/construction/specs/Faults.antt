-- Faults (document 02, order 6): 'In codes 5 and 6 a number of n or more ends the operation as a fault: none of its writes is made, its outputs are 0,
-- and a done announcement carries a fault mark.' What is said of the bench is over any words, what is said of a card after any list of entries.
use Rattle.std.specs.Prelude.{ℕ, ◌≤◌, ◌<◌, ◌≡◌, true, false, ◌⊎◌, List}
use Rattle.construction.specs.Types.{Done, Words, Instruction, Program, Effect, P3, H21, Card}
use Rattle.construction.specs.Cells.{zeros, fault_yield, yield_of}
use Rattle.construction.specs.Instructions.{word, effect_of}
use Rattle.construction.specs.Sequential.{sequential}
use Rattle.construction.specs.Parts.{announcement_at, local_at}
use Rattle.construction.specs.History.{Entry, act, Steps, Observation}
use Rattle.construction.specs.Numbers.{latest_finish}

-- codes 5 and 6 with a number of n or more
pub record PastFaults (n : ℕ) (inputs r : Words) : Type 0 where
  pub loads : (a b : ℕ) → n ≤ word r b → effect_of n inputs r (Instruction.LoadAt a b) ≡ Effect.Fault
  pub stores : (a b : ℕ) → n ≤ word r a → effect_of n inputs r (Instruction.StoreAt a b) ≡ Effect.Fault

-- 'the single-user bench makes the same nothing of it': a run that ends as a fault leaves its words, outputs 0 and the mark
abbrev pub FaultLeavesAll : ℕ → Program → Words → List ℕ → Type 0
FaultLeavesAll n program inputs words =
    (sequential n program inputs words).yields.fault ≡ true →
    sequential n program inputs words ≡ record { words = words; yields = fault_yield }

-- a mark stands only in an announcement that is done, with outputs 0
abbrev pub MarkedDone : Card → Type 0
MarkedDone c =
    (i : ℕ) → (announcement_at c i).fault ≡ true →
    ((announcement_at c i).flag ≡ Done) × ((announcement_at c i).words ≡ zeros)

-- an entry at which process i announces its next operation (lines P2, P3)
pub record Announces (c : Card) (e : Entry) (i : ℕ) : Type 0 where
  pub step : Steps e i
  pub place : (local_at c i).control.place ≡ P3

-- The converse: an operation that the bench ended as a fault has its mark in the announcement from its finishing on, returned or not, until
-- its process announces the next one; and one that it did not has none.
pub record YieldsKept (m : Observation) : Type 0 where
  -- while the flag is done, outputs and mark are what the bench got for the process's latest finished operation, 0 and none if it has none ..
  pub finished :
      (i : ℕ) → i < m.card.process_count → (announcement_at m.card i).flag ≡ Done →
      yield_of (announcement_at m.card i) ≡ (latest_finish m.history.operations m.history.order i).yields
  -- .. and no entry alters an announcement that is done but that at which its own process announces
  pub stays :
      (e : Entry) (i : ℕ) → (announcement_at m.card i).flag ≡ Done →
      (announcement_at (act m.card e).card i ≡ announcement_at m.card i) ⊎ Announces m.card e i

-- a helper that still reads has no mark, so that one that meets a greater seq goes to P19 without it
abbrev pub UnmarkedReading : Card → Type 0
UnmarkedReading c =
    (i : ℕ) → i < c.process_count → (local_at c i).control.place ≡ H21 → (local_at c i).simulation.yields.fault ≡ false
