-- The swap of an access by what decides it in a card and in its process, and the place of the cell that it touches
use Rattle.std.specs.Prelude.{ℕ}
use Rattle.construction.specs.declared.{cells.Gate.Gate, cells.Yield.Yield, cells.Announcement.Announcement, cells.Record.Record, simulations.Item.Item}
use Rattle.construction.specs.declared.{accesses.Access.Access, accesses.Cell.Cell, accesses.Swap.Swap, accesses.Control.Control, card.Operation.Operation}
use Rattle.construction.specs.Machine.{access_gate, access_announcement, outcome, write}

-- the process or the variable whose cell it is
abbrev pub announcement_in : Cell → ℕ
announcement_in Cell.None = 0
announcement_in Cell.Gate = 0
announcement_in (Cell.Announcement m) = m
announcement_in (Cell.Record v) = 0

abbrev pub record_in : Cell → ℕ
record_in Cell.None = 0
record_in Cell.Gate = 0
record_in (Cell.Announcement m) = 0
record_in (Cell.Record v) = v

-- whether the swap of an access won: the gate, the announcement of process m and the record as they stand, and what process i goes by. It is
-- `swap_of` of construction, which gives the swap together with the card that the access leaves, told without a card: the function that tells it has
-- none. `swap_is` (proofs/Swaps) says that the two are the same on every card.
abbrev pub swap_by :
    Access → ℕ → ℕ → Gate → Announcement → Record → Gate → Announcement → Operation → Yield → Control → Item → Swap
swap_by Access.None i m held announced recorded g last operation yields control item = Swap.None
swap_by (Access.Gate a) i m held announced recorded g last operation yields control item = (access_gate a i held g control).swap
swap_by (Access.Announcement a) i m held announced recorded g last operation yields control item =
    (access_announcement a m announced operation g last yields control).swap
swap_by Access.Help i m held announced recorded g last operation yields control item = Swap.None
swap_by Access.Note i m held announced recorded g last operation yields control item = Swap.None
swap_by Access.Write i m held announced recorded g last operation yields control item =
    outcome (write recorded item g.seq).won
