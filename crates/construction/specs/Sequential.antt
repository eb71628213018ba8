-- The sequential run (document 01: the single-user bench): one program from start to stop on plain words. It knows no gate, announcement or record.
use Rattle.std.specs.Prelude.{ℕ, zero, suc, cond, List, [], ◌∷◌, get_or, set}
use Rattle.construction.specs.Types.{Words, Yield, Program, Simulation}
use Rattle.construction.specs.Instructions.{next_effect, faulted, started}
use Rattle.construction.specs.Effects.{Store, Executed, execute, on_executed}

-- how a run ends: the words it leaves and what it yields
pub record Ending : Type 0 where
  pub words : List ℕ
  pub yields : Yield

abbrev pub ending : Simulation → List ℕ → Ending
ending s words = record { words = words; yields = s.yields }

-- the value of a variable, and the words with what is stored
abbrev pub word_at : List ℕ → ℕ → ℕ
word_at words v = get_or words v 0

abbrev pub with_stores : List ℕ → List Store → List ℕ
with_stores words [] = words
with_stores words (x ∷ l) = with_stores (set words x.variable x.value) l

-- the rest of a run on n words, at most `fuel` instructions
module _ (n : ℕ) (program : Program) (inputs : Words) where
  abbrev pub next_executed : Simulation → List ℕ → Executed
  next_executed s words = execute n (word_at words) s (next_effect n program inputs s)

  unfoldable pub run_from : ℕ → Simulation → List ℕ → Ending
  run_from zero s words = ending s words
  run_from (suc fuel) s words =
      on_executed (next_executed s words)
      (ending s words)
      (ending (faulted s) words)
      (λ t l. run_from fuel t (with_stores words l))

-- 'none of its writes is made': a run that ends as a fault leaves the words that it found (document 02, order 6)
abbrev pub committed : List ℕ → Ending → Ending
committed words e = record { words = cond e.yields.fault words e.words; yields = e.yields }

-- 'It runs each operation handed to it .. from start to stop'. A program has at most 32 instructions and only goes forward.
unfoldable pub sequential : ℕ → Program → Words → List ℕ → Ending
sequential n program inputs words = committed words (run_from n program inputs 32 started words)
