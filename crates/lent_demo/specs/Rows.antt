-- The row of records and the gate that are lent, what is put into them, and rows compared
use Rattle.std.specs.Prelude.{ℕ, Bool, true, false, ◌&&◌, List, [], ◌∷◌, get_or, None, Some}
use Rattle.construction.specs.declared.{cells.Gate.Gate, cells.Record.Record}
use Rattle.construction.specs.Cells.{open_record, same_record}

abbrev pub record_of : ℕ → ℕ → Bool → ℕ → Record
record_of val0 val1 toggle seq = record { val0 = val0; val1 = val1; toggle = toggle; seq = seq }

-- four records; each differs from the first in one field
abbrev pub first_row : List Record
first_row = record_of 1 2 false 5 ∷ record_of 1 2 true 5 ∷ record_of 1 2 false 6 ∷ record_of 3 2 false 5 ∷ []

-- what a swap puts in
abbrev pub new_record : Record
new_record = record_of 9 8 true 7

-- the gate that is lent, and the one that a swap puts in
abbrev pub held_gate : Gate
held_gate = record { holder = Some 1; seq = 7 }

abbrev pub free_gate : Gate
free_gate = record { holder = None; seq = 8 }

abbrev pub same_at : List Record → List Record → ℕ → Bool
same_at a b k = same_record (get_or a k (open_record 0)) (get_or b k (open_record 0))

-- rows of four, compared
abbrev pub same_row : List Record → List Record → Bool
same_row a b = same_at a b 0 && (same_at a b 1 && (same_at a b 2 && same_at a b 3))
