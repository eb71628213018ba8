-- A program of the block that runs on the items of a process (lines H7 and H20 to H30): by the simulation on the dictionary that stands there.
use Rattle.std.specs.Prelude.{ℕ, List, ◌≡◌, length, take}
use Rattle.construction.specs.declared.simulations.Pause.{Pause}
use Rattle.construction.specs.declared.simulations.Simulated.{Simulated}
use Rattle.construction.specs.Instructions.{started}
use Rattle.construction.specs.Dictionary.{value_at, empty}
use Rattle.construction.specs.Helping.{simulate}
use Rattle.helping.specs.Numbers.{with_values, Numbered}
use Rattle.codes.specs.Types.{Announcement, Dictionary, Simulation}
use Rattle.codes.specs.Parts.{table}
use Rattle.block.specs.Layout.{variable_count_in, last_in, simulation_in, put_simulation}
use Rattle.block.specs.Cards.{text_in}
use Rattle.loan.specs.Items.{put_values}
use Rattle.loan.specs.Loans.{span_in, held_dictionary}

-- the program of an announcement, in its text under a gate number, goes on from a state
abbrev pub resumed : List ℕ → ℕ → Announcement → Simulation → Dictionary → Simulated
resumed b number a s d = simulate (variable_count_in b) (text_in b a.program number) a.words s d

-- lines P18 and H1: it begins on the empty dictionary
abbrev pub begun_in : List ℕ → ℕ → Announcement → Simulated
begun_in b number a = resumed b number a started empty

-- the simulation of process i goes on
abbrev pub simulated_in : List ℕ → List ℕ → ℕ → ℕ → Simulated
simulated_in b l i number = resumed b number (last_in b i) (simulation_in b i) (held_dictionary b l i)

-- the first values of a dictionary
abbrev pub values_of : Dictionary → ℕ → List ℕ
values_of d n = table n (λ k. value_at d k)

-- the loan with the values that it leaves
unfoldable pub simulated_loan : List ℕ → List ℕ → ℕ → ℕ → List ℕ
simulated_loan b l i number =
    put_values l (span_in b l i).base (span_in b l i).end (values_of (simulated_in b l i number).dictionary (span_in b l i).end)

-- a run on numbers leaves its state in the block: what the simulation leaves on every dictionary in which the numbers stand
pub record Simulates (b c : List ℕ) (i number : ℕ) (a : Announcement) (s : Simulation) (ks : List ℕ) (end : ℕ) (before after : List ℕ) (r : Pause) : Type 0 where
  pub long : length after ≡ length before
  pub left :
      (d : Dictionary) → Numbered ks before end d →
      (c ≡ put_simulation b i (resumed b number a s d).simulation) × (r ≡ (resumed b number a s d).pause)
      × ((resumed b number a s d).dictionary ≡ with_values d (take end after))
