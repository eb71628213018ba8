-- One step (document 01, 'One step'; lines P1 to P24, C1 to C6, F1 to F4, H1 to H36): one shared access, then all local work up to the next.
use Rattle.std.specs.Prelude.{ℕ, suc, ◌+◌, ◌%◌, Option, None, Some, Bool, false, cond, not, ◌&&◌, leb, ltb, length, get_or}
use Rattle.std.specs.Option.{is_some, unwrap_or}
use Rattle.construction.specs.Types.{Gate, Flag, Done, Active, Exit, Words, Yield, Announcement, Record, Program, Item}
use Rattle.construction.specs.Types.{Dictionary, Simulation, Pause, Ended, Faulted, Lacks, Simulated, Label, Idle, P1, P3, P5, P7, P10, C2, C4, P13, P14}
use Rattle.construction.specs.Types.{P16, H21, H36, P19, P20, P21, P22, F1, F3, P6, GateAccess, AnnouncementAccess, Access, Cell, Swap, Control}
use Rattle.construction.specs.Types.{AccessedCell, Begun, Helped, Writing, Operation, Card, SwappedCell, Contents}
use Rattle.construction.specs.Cells.{is_done, same_holder, swap_gate, swap_announcement, swap_record, released, rewritten}
use Rattle.construction.specs.Instructions.{started}
use Rattle.construction.specs.Dictionary.{no_item, empty, noted, item_of, insert, next_write}
use Rattle.construction.specs.Marks.{with_bit}
use Rattle.construction.specs.Helping.{simulate}
use Rattle.construction.specs.Parts.{Local, local_at, Texts, texts_of, announcement_at, record_at, program_of, with_gate, with_announcement, with_record}
use Rattle.construction.specs.Parts.{with_steps, with_local}

-- 'The accesses are P1, P3, P6, P7, P10, C2, C4, P13, P14, P16, H21, H36, P19, P20, P21, P22, F1, F3': the access of each place.
-- Line P5 is looked at here: with an exit request the access is P6, without one P10. 'After P7 the next is F1 if the flag is done, else P10.'
unfoldable pub access_of : Label → Bool → Access
access_of Idle exit = Access.None
access_of P1 exit = Access.Gate (GateAccess.Read P3 P3)
access_of P3 exit = Access.Announcement AnnouncementAccess.Announce
access_of P5 exit = cond exit (Access.Announcement AnnouncementAccess.Withdraw) (Access.Gate (GateAccess.Read P16 C2))
access_of P7 exit = Access.Announcement (AnnouncementAccess.ReadOwn F1 P10 P10)
access_of P10 exit = Access.Gate (GateAccess.Read P16 C2)
access_of C2 exit = Access.Announcement AnnouncementAccess.ReadFirst
access_of C4 exit = Access.Announcement (AnnouncementAccess.ReadOwn F1 P13 P13)
access_of P13 exit = Access.Gate GateAccess.Nominate
access_of P14 exit = Access.Gate (GateAccess.Read P16 P22)
access_of P16 exit = Access.Help
access_of H21 exit = Access.Note
access_of H36 exit = Access.Write
access_of P19 exit = Access.Announcement (AnnouncementAccess.Finish Active P20)
access_of P20 exit = Access.Announcement (AnnouncementAccess.Finish Exit P21)
access_of P21 exit = Access.Gate (GateAccess.Release P22)
access_of P22 exit = Access.Announcement (AnnouncementAccess.ReadOwn F1 P5 Idle)
access_of F1 exit = Access.Gate GateAccess.ReadLast
access_of F3 exit = Access.Gate (GateAccess.Release Idle)
access_of P6 exit = Access.Announcement AnnouncementAccess.Withdraw

-- a control at another place, with its target kept
abbrev pub go_to : Control → Label → Control
go_to t p = record { place = p; target = t.target }

-- lines P11 and P15: by the holder of the gate
abbrev pub by_holder : Option ℕ → Label → Label → Label
by_holder None held free = free
by_holder (Some m) held free = held

-- lines P4, P8, P23, C3 and C5: by the flag of an announcement
abbrev pub by_flag : Flag → Label → Label → Label → Label
by_flag Done done active exit = done
by_flag Active done active exit = active
by_flag Exit done active exit = exit

-- the process that holds a gate, 0 where nobody does
abbrev pub holder_of : Option ℕ → ℕ
holder_of None = 0
holder_of (Some m) = m

-- lines F2 and F4: a process that holds the gate releases it, any other returns
abbrev pub after_last : Option ℕ → ℕ → Label
after_last h i = cond (same_holder h (Some i)) F3 Idle

-- line P13: the gate of a nominee
abbrev pub nominated : Gate → ℕ → Gate
nominated g m = record { holder = Some m; seq = g.seq }

-- line C1: the process whose turn it is, seq mod p
unfoldable pub first_choice : ℕ → ℕ → ℕ
first_choice seq p = cond (ltb 0 p) (seq % p) 0

-- line P2: what a process announces that was called with an operation and read a gate
abbrev pub announced : Operation → Gate → Announcement
announced o g = record { program = o.program; flag = Active; seq = g.seq; number = 0; words = o.inputs; fault = false }

-- an announcement with another flag
abbrev pub flagged : Announcement → Flag → Announcement
flagged a f = record { program = a.program; flag = f; seq = a.seq; number = a.number; words = a.words; fault = a.fault }

-- line P6: the announcement last read, asking to exit, with the inputs of the call
abbrev pub withdrawn : Announcement → Operation → Announcement
withdrawn a o = record { program = a.program; flag = Exit; seq = a.seq; number = 0; words = o.inputs; fault = false }

-- lines P19 and P20: the announcement last read, done under the number of the gate last read (document 02, order 4), with what the operation yields
abbrev pub finished : Announcement → Gate → Yield → Announcement
finished a g y =
    record { program = a.program; flag = Done; seq = a.seq; number = g.seq; words = y.outputs; fault = y.fault }

-- whether a swap won
abbrev pub outcome : Bool → Swap
outcome won = cond won Swap.Won Swap.Lost

-- THE ACCESSES: each is a function of one shared cell and of what its process keeps, and of nothing else.

-- a cell is read, and its process goes on with a control ..
abbrev pub read_cell : {A : Type 0} → A → Control → AccessedCell A
read_cell cell control = record { cell = cell; read = cell; control = control; swap = Swap.None }

-- .. or it was swapped, for a process that last read another
abbrev pub replace_cell : {A : Type 0} → SwappedCell A → A → Control → AccessedCell A
replace_cell swapped last control = record { cell = swapped.cell; read = last; control = control; swap = outcome swapped.won }

-- the gate, for process i that last read the gate g: it is read ..
abbrev pub read_gate : Gate → Control → Label → AccessedCell Gate
read_gate cell control next = read_cell cell (go_to control next)

-- .. or swapped from g to another
abbrev pub replace_gate : Gate → Gate → Control → Gate → Label → AccessedCell Gate
replace_gate cell g control new next = replace_cell (swap_gate cell g new) g (go_to control next)

-- lines P1, P10, P14: the holder says where the process goes on
abbrev pub read_holder : Gate → Control → Label → Label → AccessedCell Gate
read_holder cell control held free = read_gate cell control (by_holder cell.holder held free)

-- lines F1, F2, F4
abbrev pub read_last : Gate → Control → ℕ → AccessedCell Gate
read_last cell control i = read_gate cell control (after_last cell.holder i)

-- line P13
abbrev pub nominate : Gate → Gate → Control → AccessedCell Gate
nominate cell g control = replace_gate cell g control (nominated g control.target) P14

-- lines P21 and F3
abbrev pub release : Gate → Gate → Control → Label → AccessedCell Gate
release cell g control next = replace_gate cell g control (released g) next

unfoldable pub access_gate : GateAccess → ℕ → Gate → Gate → Control → AccessedCell Gate
access_gate (GateAccess.Read held free) i cell g control = read_holder cell control held free
access_gate GateAccess.ReadLast i cell g control = read_last cell control i
access_gate GateAccess.Nominate i cell g control = nominate cell g control
access_gate (GateAccess.Release next) i cell g control = release cell g control next

-- the announcement of process m, for a process that last read the announcement a: it is read ..
abbrev pub read_announcement : Announcement → ℕ → Label → AccessedCell Announcement
read_announcement cell m next = read_cell cell (record { place = next; target = m })

-- .. or swapped
abbrev pub replace_announcement : Announcement → Announcement → Control → Announcement → Announcement → Label → AccessedCell Announcement
replace_announcement cell a control expected new next = replace_cell (swap_announcement cell expected new) a (go_to control next)

-- whose announcement an access of process i is of, if it last read the gate g: at P3, P6, P7, C4 and P22 its own, at C2 by turn (line C1),
-- at P19 and P20 that of the gate's holder
abbrev pub whose : AnnouncementAccess → ℕ → ℕ → Gate → ℕ
whose AnnouncementAccess.Announce p i g = i
whose AnnouncementAccess.Withdraw p i g = i
whose (AnnouncementAccess.ReadOwn done active exit) p i g = i
whose AnnouncementAccess.ReadFirst p i g = first_choice g.seq p
whose (AnnouncementAccess.Finish flag next) p i g = holder_of g.holder

-- lines P2, P3
abbrev pub announce : Operation → Gate → Control → AccessedCell Announcement
announce operation g control =
    record { cell = announced operation g; read = announced operation g; control = go_to control P5; swap = Swap.None }

-- line P6
abbrev pub withdraw : Announcement → Operation → Announcement → Control → AccessedCell Announcement
withdraw cell operation a control = replace_announcement cell a control a (withdrawn a operation) P7

-- lines P7, C2, C4 with C6, P22: the flag says where the process goes on
abbrev pub read_flag : Announcement → ℕ → Label → Label → Label → AccessedCell Announcement
read_flag cell m done active exit = read_announcement cell m (by_flag cell.flag done active exit)

-- lines P19, P20
abbrev pub finish : Flag → Label → Announcement → Gate → Announcement → Yield → Control → AccessedCell Announcement
finish flag next cell g a y control = replace_announcement cell a control (flagged a flag) (finished a g y) next

unfoldable pub access_announcement :
    AnnouncementAccess → ℕ → Announcement → Operation → Gate → Announcement → Yield → Control → AccessedCell Announcement
access_announcement AnnouncementAccess.Announce m cell operation g a y control = announce operation g control
access_announcement AnnouncementAccess.Withdraw m cell operation g a y control = withdraw cell operation a control
access_announcement (AnnouncementAccess.ReadOwn done active exit) m cell operation g a y control = read_flag cell m done active exit
-- line C2, by C3
access_announcement AnnouncementAccess.ReadFirst m cell operation g a y control = read_flag cell m C4 P13 C4
access_announcement (AnnouncementAccess.Finish flag next) m cell operation g a y control = finish flag next cell g a y control

-- lines H31 and H32: the write of item `next` of so many, or P19 past the last; ..
abbrev pub write_control : ℕ → ℕ → Control
write_control next end = cond (ltb next end) (record { place = H36; target = next }) (record { place = P19; target = 0 })

-- .. the next write from item k on
abbrev pub write_from : ℕ → Dictionary → ℕ → Control
write_from number d k = write_control (next_write number d k) (length (noted d))

-- a simulation that lacks a variable reads its record; one that ended writes what it altered, from item `next` of so many on; one that ended as
-- a fault writes nothing; ..
abbrev pub pause_control : Pause → ℕ → ℕ → Control
pause_control Ended next end = write_control next end
pause_control Faulted next end = record { place = P19; target = 0 }
pause_control (Lacks v) next end = record { place = H21; target = v }

-- .. with its dictionary
abbrev pub after_pause : ℕ → Dictionary → Pause → Control
after_pause number d p = pause_control p (next_write number d 0) (length (noted d))

-- a helper goes on as its simulation stands
abbrev pub helped : ℕ → Simulated → ℕ → Helped
helped number x mask =
    record {
      control = after_pause number x.dictionary x.pause;
      simulation = x.simulation;
      dictionary = x.dictionary;
      mask = mask;
    }

-- line P17: 'not done and seq not above the gate's'
abbrev pub helps : Announcement → ℕ → Bool
helps a number = not (is_done a.flag) && leb a.seq number

-- lines P16 to P18, H1: the announcement of the gate's holder is read, and its program begins on the empty dictionary, if it is to be helped; ..
unfoldable pub begin_help : ℕ → Program → Announcement → ℕ → Option Begun
begin_help n program cell number =
    let x = helped number (simulate n program cell.words started empty) 0 in
    cond (helps cell number) (Some (record { control = x.control; simulation = x.simulation })) None

-- .. what the process goes on with, whose control and simulation these were
abbrev pub begun_from : Control → Simulation → Option Begun → Begun
begun_from control s x = unwrap_or x (record { control = go_to control P21; simulation = s })

-- lines H21 to H25: the record of the control's variable is read and noted, and the program with the inputs goes on;
-- 'with greater seq the helper goes to P19 with the outputs so far', and notes nothing (document 02, order 1)
unfoldable pub note : ℕ → Program → Words → Record → ℕ → Control → Simulation → Dictionary → ℕ → Helped
note n program inputs cell number control s d mask =
    cond (ltb number cell.seq)
    (record { control = go_to control P19; simulation = s; dictionary = d; mask = mask })
    (helped number (simulate n program inputs s (insert d (item_of number control.target cell))) (with_bit mask control.target))

-- line H36, 'in book order, won or lost': the item that is written, and the next write ..
unfoldable pub writing : ℕ → Control → Dictionary → Writing
writing number control d =
    record {
      item = get_or d.items control.target no_item;
      control = write_from number d (suc control.target);
    }

-- .. and its record swapped
abbrev pub write : Record → Item → ℕ → SwappedCell Record
write cell e number = swap_record cell e.cell (rewritten e.cell e.value number)

-- ONE STEP: the text and the process decide which cell it touches; these and that cell decide all that it does.

-- the access of a process, by its place
abbrev pub access_in : Local → Access
access_in l = access_of l.control.place l.exit

-- the variable that H36 writes
abbrev pub written_variable : Local → ℕ
written_variable l = (writing l.gate.seq l.control l.dictionary).item.variable

-- the cell that an access touches: at P16 the announcement of the gate's holder, at H21 the record that the simulation lacks, at H36 that of the item in turn;
-- of p processes, process i that last read the gate g, with the variables of H21 and H36; ..
abbrev pub cell_by : Access → ℕ → ℕ → Gate → ℕ → ℕ → Cell
cell_by Access.None p i g lacking written = Cell.None
cell_by (Access.Gate a) p i g lacking written = Cell.Gate
cell_by (Access.Announcement a) p i g lacking written = Cell.Announcement (whose a p i g)
cell_by Access.Help p i g lacking written = Cell.Announcement (holder_of g.holder)
cell_by Access.Note p i g lacking written = Cell.Record lacking
cell_by Access.Write p i g lacking written = Cell.Record written

-- .. with its own state
abbrev pub cell_of : Access → Contents → ℕ → Local → Cell
cell_of a t i l = cell_by a t.process_count i l.gate l.control.target (written_variable l)

-- a process after an access: it goes on with its control, the gate and the announcement last read, its simulation, its dictionary and the set of
-- the variables noted there, and the step is counted as its own, in 64 bits
abbrev pub after : Local → Control → Gate → Announcement → Simulation → Dictionary → ℕ → Local
after l control gate announcement simulation dictionary mask =
    record {
      control = control;
      operation = l.operation;
      exit = l.exit;
      steps = (l.steps + 1) % 18446744073709551616;
      gate = gate;
      announcement = announcement;
      simulation = simulation;
      dictionary = dictionary;
      mask = mask;
    }

-- the cell and the process after an access of the gate, of an announcement, of a record; and the swap
pub record Accessed (A : Type 0) : Type 0 where
  pub cell : A
  pub local : Local
  pub swap : Swap

abbrev pub step_gate : GateAccess → ℕ → Gate → Local → Accessed Gate
step_gate a i cell l =
    let x = access_gate a i cell l.gate l.control in
    record { cell = x.cell; local = after l x.control x.read l.announcement l.simulation l.dictionary l.mask; swap = x.swap }

abbrev pub step_announcement : AnnouncementAccess → ℕ → Announcement → Local → Accessed Announcement
step_announcement a m cell l =
    let x = access_announcement a m cell l.operation l.gate l.announcement l.simulation.yields l.control in
    record { cell = x.cell; local = after l x.control l.gate x.read l.simulation l.dictionary l.mask; swap = x.swap }

abbrev pub step_help : ℕ → Texts → Announcement → Local → Accessed Announcement
step_help n t cell l =
    let began = begin_help n (program_of t cell.program l.gate.seq) cell l.gate.seq in
    let x = begun_from l.control l.simulation began in
    record {
      cell = cell;
      local = after l x.control l.gate cell x.simulation (cond (is_some began) empty l.dictionary) (cond (is_some began) 0 l.mask);
      swap = Swap.None;
    }

abbrev pub step_note : ℕ → Texts → Record → Local → Accessed Record
step_note n t cell l =
    let a = l.announcement in
    let x = note n (program_of t a.program l.gate.seq) a.words cell l.gate.seq l.control l.simulation l.dictionary l.mask in
    record { cell = cell; local = after l x.control l.gate a x.simulation x.dictionary x.mask; swap = Swap.None }

abbrev pub step_write : Record → Local → Accessed Record
step_write cell l =
    let x = writing l.gate.seq l.control l.dictionary in
    let swapped = write cell x.item l.gate.seq in
    record {
      cell = swapped.cell;
      local = after l x.control l.gate l.announcement l.simulation l.dictionary l.mask;
      swap = outcome swapped.won;
    }

-- THE CARD: the cell and the process are taken out and put back; and the swap
pub record AccessedCard : Type 0 where
  pub card : Card
  pub swap : Swap

abbrev pub put_gate : Card → ℕ → Accessed Gate → AccessedCard
put_gate c i x = record { card = with_local (with_gate c x.cell) i x.local; swap = x.swap }

abbrev pub put_announcement : Card → ℕ → ℕ → Accessed Announcement → AccessedCard
put_announcement c i m x = record { card = with_local (with_announcement c m x.cell) i x.local; swap = x.swap }

abbrev pub put_record : Card → ℕ → ℕ → Accessed Record → AccessedCard
put_record c i v x = record { card = with_local (with_record c v x.cell) i x.local; swap = x.swap }

unfoldable pub perform : Access → Card → ℕ → AccessedCard
perform Access.None c i =
    let l = local_at c i in
    record { card = with_local c i (after l l.control l.gate l.announcement l.simulation l.dictionary l.mask); swap = Swap.None }
perform (Access.Gate a) c i = put_gate c i (step_gate a i c.gate (local_at c i))
perform (Access.Announcement a) c i =
    let m = whose a c.process_count i (local_at c i).gate in
    put_announcement c i m (step_announcement a m (announcement_at c m) (local_at c i))
perform Access.Help c i =
    let m = holder_of (local_at c i).gate.holder in
    put_announcement c i m (step_help c.variable_count (texts_of c) (announcement_at c m) (local_at c i))
perform Access.Note c i =
    let v = (local_at c i).control.target in
    put_record c i v (step_note c.variable_count (texts_of c) (record_at c v) (local_at c i))
perform Access.Write c i =
    let v = written_variable (local_at c i) in
    put_record c i v (step_write (record_at c v) (local_at c i))

-- one accepted step
unfoldable pub advance : Card → ℕ → Card
advance c i = with_steps (perform (access_in (local_at c i)) c i).card ((c.steps + 1) % 18446744073709551616)

-- its swap
unfoldable pub swap_of : Card → ℕ → Swap
swap_of c i = (perform (access_in (local_at c i)) c i).swap
