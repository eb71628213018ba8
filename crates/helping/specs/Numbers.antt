-- The numbers that stand in a dictionary as arrays of their own: a program runs on its keys and values, and copies no dictionary.
use Rattle.std.specs.Prelude.{ℕ, List, [], ◌∷◌, map, ◌≡◌, eqb, length, take, drop, replicate, Option, Result, Ok, Err}
use Rattle.std.specs.List.{position}
use Rattle.construction.specs.declared.{cells.Words.Words, programs.Instruction.Instruction, programs.Program.Program, programs.Effect.Effect}
use Rattle.construction.specs.declared.{simulations.Item.Item, simulations.Dictionary.Dictionary, simulations.Simulation.Simulation}
use Rattle.construction.specs.declared.{simulations.Simulated.Simulated}
use Rattle.construction.specs.declared.simulations.Pause.TheVariants.{Ended, Faulted, Lacks}
use Rattle.construction.specs.Instructions.{effect_of, faulted}
use Rattle.construction.specs.Effects.{touched, execute, on_executed}
use Rattle.construction.specs.Dictionary.{noted, with_value}
use Rattle.construction.specs.Helping.{note_of, with_notes, on_lacking, simulate}
use Rattle.helping.specs.declared.numbers.Numbers.{Numbers}
use Rattle.helping.specs.declared.simulation.Paused.{Paused}

-- the variable and the value of each item (document 01: the noted records of a book)
abbrev pub keys : Dictionary → List ℕ
keys d = map (λ (e : Item). e.variable) d.items

abbrev pub values : Dictionary → List ℕ
values d = map (λ (e : Item). e.value) d.items

-- lines H20 and H26: the place of a variable among keys, if it is there
abbrev pub place_of : List ℕ → ℕ → Option ℕ
place_of ks v = position (λ k. eqb k v) ks

-- a dictionary whose first items have other values
unfoldable pub revalued : List Item → List ℕ → List Item
revalued [] xs = []
revalued (e ∷ es) [] = e ∷ es
revalued (e ∷ es) (x ∷ xs) = with_value e x ∷ revalued es xs

abbrev pub with_values : Dictionary → List ℕ → Dictionary
with_values d xs = record { length = d.length; items = revalued d.items xs }

-- so many items of a dictionary are noted, and these are their keys and values
pub record Numbered (ks xs : List ℕ) (end : ℕ) (d : Dictionary) : Type 0 where
  pub keyed : take end ks ≡ take end (keys d)
  pub valued : take end xs ≡ take end (values d)
  pub count : end ≡ length (noted d)

-- none are
abbrev pub no_numbers : Numbers
no_numbers = record { keys = replicate 32 0; values = replicate 32 0; end = 0 }

-- a simulation that stands still, with its dictionary
abbrev pub standing : Paused → Dictionary → Simulated
standing r d = record { pause = r.pause; simulation = r.simulation; dictionary = d }

-- a run on numbers leaves what the simulation leaves on every dictionary in which they stand
pub record Runs (n : ℕ) (program : Program) (inputs : Words) (s : Simulation) (ks : List ℕ) (end : ℕ) (before after : List ℕ) (r : Paused) : Type 0 where
  pub long : length after ≡ length before
  pub left : (d : Dictionary) → Numbered ks before end d → simulate n program inputs s d ≡ standing r (with_values d (take end after))

-- a program that stands still: it ended, or faulted, or lacks a variable
abbrev pub ending : Simulation → Paused
ending s = record { pause = Ended; simulation = s }

abbrev pub faulting : Simulation → Paused
faulting s = record { pause = Faulted; simulation = faulted s }

abbrev pub lacking : ℕ → Simulation → Paused
lacking v s = record { pause = Lacks v; simulation = s }

-- lines H7 and H20 to H30: one turn of `simulate_from`, from which the program goes on or stands still, and the dictionary that it leaves
unfoldable pub turned : ℕ → Simulation → Dictionary → Effect → Result Simulation Paused × Dictionary
turned n s d e =
    on_lacking d (touched n (note_of d) e)
    (λ v. (Err (lacking v s), d))
    (on_executed (execute n (note_of d) s e)
    (Err (ending s), d)
    (Err (faulting s), d)
    (λ t l. (Ok t, with_notes d l)))

-- a turn on the first numbers leaves what the turn leaves on every dictionary in which they stand, and the other numbers as they were
pub record Turns (n : ℕ) (instruction : Instruction) (inputs : Words) (s : Simulation) (ks : List ℕ) (end : ℕ) (before after : List ℕ) (r : Result Simulation Paused) : Type 0 where
  pub long : length after ≡ length before
  pub rest : drop end after ≡ drop end before
  pub left :
      (d : Dictionary) → Numbered ks before end d →
      turned n s d (effect_of n inputs s.registers instruction) ≡ (r, with_values d (take end after))
