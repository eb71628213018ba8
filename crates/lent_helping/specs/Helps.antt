-- The accesses of a helper (construction's specs/Machine: `step_help`, `step_note`, `step_write`) on a block and a loan (document 02, order 10): what the access
-- needs is taken out, and what it changes is put back. A read leaves its cell as it is; a swap stores its cell only where it won. Only line H21 changes
-- the loan.
use Rattle.std.specs.Prelude.{ℕ, cond, List, ltb}
use Rattle.construction.specs.declared.accesses.Writing.{Writing}
use Rattle.construction.specs.declared.cells.SwappedCell.{SwappedCell}
use Rattle.construction.specs.Dictionary as construction
use Rattle.construction.specs.Marks.{with_bit}
use Rattle.construction.specs.Machine.{go_to, holder_of, helps, after_pause, writing, write, outcome}
use Rattle.codes.specs.Types.{Announcement, Record, Item, P19, P21}
use Rattle.block.specs.Layout.{announcement_in, record_in, put_record, control_in, put_control, last_gate_in, put_last, put_simulation, put_noted, mask_in, put_mask}
use Rattle.loan.specs.Loans.{held_dictionary, insert_block, insert_loan}
use Rattle.loan.specs.Simulated.{begun_in, simulated_in, simulated_loan}
use Rattle.lent_machine.specs.Accesses.{if_won}

-- the number of the gate that process i last read
abbrev pub number_in : List ℕ → ℕ → ℕ
number_in b i = (last_gate_in b i).seq

-- line P16: the announcement of that gate's holder
abbrev pub helped_in : List ℕ → ℕ → Announcement
helped_in b i = announcement_in b (holder_of (last_gate_in b i).holder)

-- lines P18 and H1: its program begins, and nothing is noted
abbrev pub help_begun : List ℕ → ℕ → ℕ → Announcement → List ℕ
help_begun b i number cell =
    let x = begun_in b number cell in
    put_control (put_last (put_mask (put_noted (put_simulation b i x.simulation) i 0) i 0) i cell) i (after_pause number x.dictionary x.pause)

-- line P17: there is nothing to help
abbrev pub help_passed : List ℕ → ℕ → Announcement → List ℕ
help_passed b i cell = put_control (put_last b i cell) i (go_to (control_in b i) P21)

-- lines P16 to P18
unfoldable pub help_step : List ℕ → ℕ → List ℕ
help_step b i = cond (helps (helped_in b i) (number_in b i)) (help_begun b i (number_in b i) (helped_in b i)) (help_passed b i (helped_in b i))

-- line H21: the record of the variable that process i lacks
abbrev pub lacked_in : List ℕ → ℕ → Record
lacked_in b i = record_in b (control_in b i).target

-- document 02, order 1: one variable more in the set of the variables noted
abbrev pub put_marked : List ℕ → ℕ → ℕ → List ℕ
put_marked b i v = put_mask b i (with_bit (mask_in b i) v)

-- lines H20 to H30: the simulation goes on, and leaves its values in the loan (`simulated_loan`)
abbrev pub gone_on : List ℕ → List ℕ → ℕ → ℕ → List ℕ
gone_on b l i number =
    let x = simulated_in b l i number in
    put_control (put_simulation b i x.simulation) i (after_pause number x.dictionary x.pause)

-- lines H23 to H25: the record of a variable is noted, then the simulation goes on
abbrev pub noted_block : List ℕ → List ℕ → ℕ → ℕ → Item → List ℕ
noted_block b l i number e =
    let c = put_marked b i e.variable in
    gone_on (insert_block c l i) (insert_loan c l i e) i number

abbrev pub noted_loan : List ℕ → List ℕ → ℕ → ℕ → Item → List ℕ
noted_loan b l i number e =
    let c = put_marked b i e.variable in
    simulated_loan (insert_block c l i) (insert_loan c l i e) i number

-- the item of that record
abbrev pub lacked_item : List ℕ → ℕ → Item
lacked_item b i = construction.item_of (number_in b i) (control_in b i).target (lacked_in b i)

-- lines H21 to H25: a newer record is not noted
unfoldable pub note_block : List ℕ → List ℕ → ℕ → List ℕ
note_block b l i =
    cond (ltb (number_in b i) (lacked_in b i).seq) (put_control b i (go_to (control_in b i) P19)) (noted_block b l i (number_in b i) (lacked_item b i))

unfoldable pub note_loan : List ℕ → List ℕ → ℕ → List ℕ
note_loan b l i = cond (ltb (number_in b i) (lacked_in b i).seq) l (noted_loan b l i (number_in b i) (lacked_item b i))

-- line H36: the item that process i writes, with where it goes on, and its record swapped
abbrev pub writing_in : List ℕ → List ℕ → ℕ → Writing
writing_in b l i = writing (number_in b i) (control_in b i) (held_dictionary b l i)

abbrev pub written_in : List ℕ → List ℕ → ℕ → SwappedCell Record
written_in b l i = let e = (writing_in b l i).item in write (record_in b e.variable) e (number_in b i)

-- the record of variable v after a swap
abbrev pub record_swapped : List ℕ → ℕ → SwappedCell Record → List ℕ
record_swapped b v x = if_won (outcome x.won) (put_record b v x.cell) b

unfoldable pub write_step : List ℕ → List ℕ → ℕ → List ℕ
write_step b l i = put_control (record_swapped b (writing_in b l i).item.variable (written_in b l i)) i (writing_in b l i).control
