-- 'whether a swap won' (document 02, order 1): what a report's swap says of the cell found, the cell expected and the cell stored, by the paper's
-- lines ('A swap compares the whole cell with the expected one, stores the new one if equal, and tells which', document 01).
use Rattle.std.specs.Prelude.{ℕ, ◌≡◌, ◌≢◌, get_or, set}
use Rattle.construction.specs.Types.{Gate, Active, Exit, Announcement, Record, Swap, Card, Label}
use Rattle.construction.specs.Cells.{released, rewritten}
use Rattle.construction.specs.Dictionary.{no_item}
use Rattle.construction.specs.Parts.{Local, local_at, announcement_at, record_at}
use Rattle.construction.specs.Machine.{holder_of, nominated, flagged, withdrawn, finished, advance}
use Rattle.construction.specs.Tracing.{report_of}

-- told won, exactly if the whole cell found is the one expected, and then the new one is stored; told lost, exactly if it is not, and then all is as
-- it was. `before` and `after` are what holds the cell (the gate; all announcements; all records) around the step, `stored` is that with the new cell
pub data Swapped {A B : Type 0} (told : Swap) (found expected : A) (before stored after : B) : Type 0 where
  won : told ≡ Swap.Won → found ≡ expected → after ≡ stored → Swapped told found expected before stored after
  lost : told ≡ Swap.Lost → found ≢ expected → after ≡ before → Swapped told found expected before stored after

-- a swap of the gate, of the announcement of process m, of the record of variable v, from the card c to the card d
abbrev pub GateSwapped : Swap → Card → Card → Gate → Gate → Type 0
GateSwapped told c d expected new = Swapped told c.gate expected c.gate new d.gate

abbrev pub AnnouncementSwapped : Swap → Card → Card → ℕ → Announcement → Announcement → Type 0
AnnouncementSwapped told c d m expected new =
    Swapped told (announcement_at c m) expected c.announcements (set c.announcements m new) d.announcements

abbrev pub RecordSwapped : Swap → Card → Card → ℕ → Record → Record → Type 0
RecordSwapped told c d v expected new = Swapped told (record_at c v) expected c.records (set c.records v new) d.records

-- what an access of process i swaps, by its label and what its process keeps: g and a are the gate and the announcement last read
abbrev pub SwapAt : Label → ℕ → Local → Swap → Card → Card → Type 0
-- P6: A[i], from a to a asking to exit, with the inputs of the call
SwapAt Label.P6 i l told c d = AnnouncementSwapped told c d i l.announcement (withdrawn l.announcement l.operation)
-- P13: the gate, from g to g held by the nominee
SwapAt Label.P13 i l told c d = GateSwapped told c d l.gate (nominated l.gate l.control.target)
-- H36: the record of the item in turn, from the one noted to the one with the value noted, under g's number
SwapAt Label.H36 i l told c d =
    let e = get_or l.dictionary.items l.control.target no_item in
    RecordSwapped told c d e.variable e.cell (rewritten e.cell e.value l.gate.seq)
-- P19, P20: the announcement of g's holder, from a, active or asking to exit, to a done under g's number, with what the operation yields
SwapAt Label.P19 i l told c d =
    AnnouncementSwapped told c d (holder_of l.gate.holder) (flagged l.announcement Active) (finished l.announcement l.gate l.simulation.yields)
SwapAt Label.P20 i l told c d =
    AnnouncementSwapped told c d (holder_of l.gate.holder) (flagged l.announcement Exit) (finished l.announcement l.gate l.simulation.yields)
-- P21, F3: the gate, from g to nobody with the next number
SwapAt Label.P21 i l told c d = GateSwapped told c d l.gate (released l.gate)
SwapAt Label.F3 i l told c d = GateSwapped told c d l.gate (released l.gate)
-- line P5 is no access, and told of no step; every other access is no swap
SwapAt Label.P5 i l told c d = ⊥
SwapAt Label.Idle i l told c d = told ≡ Swap.None
SwapAt Label.P1 i l told c d = told ≡ Swap.None
SwapAt Label.P3 i l told c d = told ≡ Swap.None
SwapAt Label.P7 i l told c d = told ≡ Swap.None
SwapAt Label.P10 i l told c d = told ≡ Swap.None
SwapAt Label.C2 i l told c d = told ≡ Swap.None
SwapAt Label.C4 i l told c d = told ≡ Swap.None
SwapAt Label.P14 i l told c d = told ≡ Swap.None
SwapAt Label.P16 i l told c d = told ≡ Swap.None
SwapAt Label.H21 i l told c d = told ≡ Swap.None
SwapAt Label.P22 i l told c d = told ≡ Swap.None
SwapAt Label.F1 i l told c d = told ≡ Swap.None

-- what the report of an accepted step of process i tells
abbrev pub TellsSwap : Card → ℕ → Type 0
TellsSwap c i = SwapAt (report_of c i).label i (local_at c i) (report_of c i).swap c (advance c i)
