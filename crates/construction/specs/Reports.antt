-- What is printed of a report (document 02, order 1): 'the label, the cell (`G`, or `A` or `R` with its number), 1, 0 or `-` for a swap won, lost or
-- none, the gate number last read, the word and count', each after a comma.
use Rattle.std.specs.Prelude.{ℕ, cond, ◌≡◌, List, [], ◌∷◌, ◌++◌, eqb}
use Prim.Native.String.{String}
use Rattle.grammar.specs.Writing.{decimal}
use Rattle.construction.specs.Types.{Cell, Swap, Label, Report}
use Rattle.construction.specs.Labels.{label_row}
use Rattle.construction.specs.Answers.{bytes, numbers_text}

-- a label is the letter of its procedure and the number of its line, by the table
abbrev pub label_text : Label → List ℕ
label_text label = 44 ∷ (label_row label).letter ∷ decimal (label_row label).number

unfoldable pub cell_text : Cell → List ℕ
cell_text Cell.None = 44 ∷ 45 ∷ []
cell_text Cell.Gate = 44 ∷ 71 ∷ []
cell_text (Cell.Announcement m) = 44 ∷ 65 ∷ decimal m
cell_text (Cell.Record v) = 44 ∷ 82 ∷ decimal v

abbrev pub swap_byte : Swap → ℕ
swap_byte Swap.None = 45
swap_byte Swap.Lost = 48
swap_byte Swap.Won = 49

abbrev pub access_text : Report → List ℕ
access_text r =
    label_text r.label
    ++ (cell_text r.cell ++ (44 ∷ swap_byte r.swap ∷ numbers_text (r.number ∷ r.noted ∷ r.count ∷ [])))

-- nothing is printed of no access
unfoldable pub report_text : Report → List ℕ
report_text r = cond (eqb (label_row r.label).letter 0) [] (access_text r)

-- the eighteen labels as the paper writes them
pub record Spelt : Type 0 where
  pub label : Label
  pub word : String

abbrev pub AllSpelt : List Spelt → Type 0
AllSpelt [] = Unit
AllSpelt (r ∷ rs) = (label_text r.label ≡ 44 ∷ bytes r.word) × AllSpelt rs

abbrev pub labels : List Spelt
labels =
    record { label = Label.P1; word = "P1" }
    ∷ record { label = Label.P3; word = "P3" }
    ∷ record { label = Label.P6; word = "P6" }
    ∷ record { label = Label.P7; word = "P7" }
    ∷ record { label = Label.P10; word = "P10" }
    ∷ record { label = Label.C2; word = "C2" }
    ∷ record { label = Label.C4; word = "C4" }
    ∷ record { label = Label.P13; word = "P13" }
    ∷ record { label = Label.P14; word = "P14" }
    ∷ record { label = Label.P16; word = "P16" }
    ∷ record { label = Label.H21; word = "H21" }
    ∷ record { label = Label.H36; word = "H36" }
    ∷ record { label = Label.P19; word = "P19" }
    ∷ record { label = Label.P20; word = "P20" }
    ∷ record { label = Label.P21; word = "P21" }
    ∷ record { label = Label.P22; word = "P22" }
    ∷ record { label = Label.F1; word = "F1" }
    ∷ record { label = Label.F3; word = "F3" }
    ∷ []
