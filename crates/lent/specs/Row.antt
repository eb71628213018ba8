-- The swap on one place of a lent row of records (document 01, 'Shared cells': 'one that changes at most the named record in a lent row
-- of records. A place at or past the row's end is refusal 9.')
use Rattle.std.specs.Prelude.{ℕ, Bool, cond, List, [], leb, length, get_or, set, Ok, Err}
use Rattle.construction.specs.declared.{cells.Record.Record, cells.SwappedCell.SwappedCell}
use Rattle.construction.specs.declared.answers.Refusal.TheVariants.{NoPlace}
use Rattle.construction.specs.Cells.{open_record, swap_record}
use Rattle.construction.specs.Answers.{Fields, fields, refused_with}
use Rattle.construction.specs.Types.{RowSwap}

-- the answer to a swap that was made: it 'tells which' (document 01, 'Shared cells')
abbrev pub tells : Bool → RowSwap
tells won = Ok won

-- the named record swapped as 'Shared cells' says; past the end, where nothing is swapped, the opening record stands in for it
abbrev pub swap_at : List Record → ℕ → Record → Record → SwappedCell Record
swap_at row place expected new = swap_record (get_or row place (open_record 0)) expected new

-- 'A place at or past the row's end is refusal 9'; else the answer tells which
unfoldable pub row_answer : List Record → ℕ → Record → Record → RowSwap
row_answer row place expected new =
    cond (leb (length row) place) (Err NoPlace) (tells (swap_at row place expected new).won)

-- the row at exit. 'Turned back': refused, 'all lent cells and bytes remain as they were'; else 'at most the named record' changes
unfoldable pub row_after : List Record → ℕ → Record → Record → List Record
row_after row place expected new =
    cond (leb (length row) place) row (set row place (swap_at row place expected new).cell)

-- the answer by its fields: `refused` with 9 where the place is not there, 'never else'; else which it was
unfoldable pub swap_fields : List Record → ℕ → Record → Record → Fields
swap_fields row place expected new =
    cond (leb (length row) place) (refused_with 9)
    (cond (swap_at row place expected new).won (fields "won" []) (fields "lost" []))
