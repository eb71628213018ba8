-- The paper's flow as a relation between labels (document 02, order 1: 'The labels of one operation, read in sequence, must be a path that the
-- numbered lines allow'): what an access found, the edges from one access to the next with the lines that allow each, where a path ends, and the
-- accesses of an operation by the run itself.
use Rattle.std.specs.Prelude.{ℕ, ◌≤◌, ◌<◌, ◌≡◌, Bool, true, false, cond, not, ◌&&◌, ◌≢◌, ◌⊎◌, List, [], ◌∷◌, eqb, ltb, None, Some}
use Rattle.construction.specs.Types.{Gate, Done, Active, Exit, Words, Yield, Announcement, Record, Program, Item, Dictionary, Pause}
use Rattle.construction.specs.Types.{Ended, Faulted, Lacks, Cell, Swap, Card, Answer, Label, Report}
use Rattle.construction.specs.Cells.{zeros, current}
use Rattle.construction.specs.Instructions.{started, no_program}
use Rattle.construction.specs.Dictionary.{empty, noted, item_of, insert}
use Rattle.construction.specs.Helping.{simulate}
use Rattle.construction.specs.Parts.{local_at, texts_of, announcement_at, record_at, program_of}
use Rattle.construction.specs.Machine.{advance}
use Rattle.construction.specs.Requests.{answer_of}
use Rattle.construction.specs.OneAccess.{touched_cell}
use Rattle.construction.specs.Answers.{is_refused}
use Rattle.construction.specs.Tracing.{report_of}
use Rattle.construction.specs.History.{Return, Event, event_of, Entry, act}

-- what stood in the cell that an access touched, before it
pub data Found : Type 0 where
  nothing : Found
  gate : Gate → Found
  announcement : Announcement → Found
  cell : Record → Found

abbrev pub found_in : Card → Cell → Found
found_in c Cell.None = Found.nothing
found_in c Cell.Gate = Found.gate c.gate
found_in c (Cell.Announcement m) = Found.announcement (announcement_at c m)
found_in c (Cell.Record v) = Found.cell (record_at c v)

-- a helping (lines H1 to H36): the variables of the card, the program and the inputs of the announcement that P16 read, and the records that H21 has
-- read since, in sequence, each with its value before the operation (H23 to H25)
pub record Help : Type 0 where
  pub variables : ℕ
  pub program : Program
  pub inputs : Words
  pub reads : Dictionary

abbrev pub no_help : Help
no_help = record { variables = 0; program = no_program; inputs = zeros; reads = empty }

-- the one that begins with what was found, under this number
abbrev pub help_of : Card → ℕ → Found → Help
help_of c number Found.nothing = no_help
help_of c number (Found.gate g) = no_help
help_of c number (Found.announcement a) =
    record { variables = c.variable_count; program = program_of (texts_of c) a.program number; inputs = a.words; reads = empty }
help_of c number (Found.cell r) = no_help

-- an access that was made: what `trace` tells of it, whether a wish of its operation had been taken, what it found and the helping that begins with
-- that, and the answer to its step
pub record Made : Type 0 where
  pub report : Report
  pub wish : Bool
  pub found : Found
  pub help : Help
  pub answer : Answer

unfoldable pub made : Card → ℕ → Bool → Made
made c i wish =
    record {
      report = report_of c i;
      wish = wish;
      found = found_in c (touched_cell c i);
      help = help_of c (report_of c i).number (found_in c (touched_cell c i));
      answer = answer_of (local_at (advance c i) i);
    }

-- THE EDGES. After an access of process i, whose gate number last read is `number`, by its label, its swap and what it found: the label of the
-- next access, by whether a wish has been taken by then. No line asks whether a swap won, so an edge from a swap has it won or lost.
pub data Edge (i number : ℕ) : Label → Swap → Found → Bool → Label → Type 0 where
  -- P2, P3: the operation is announced under the number read
  P1-P3 : {g : Gate} {wish : Bool} → Edge i number Label.P1 Swap.None (Found.gate g) wish Label.P3
  -- P4, P5: what was announced is active, so the loop is entered; with a wish P6, without one P10
  P3-P6 : {f : Found} → Edge i number Label.P3 Swap.None f true Label.P6
  P3-P10 : {f : Found} → Edge i number Label.P3 Swap.None f false Label.P10
  -- P7 follows P6
  P6-P7 : {s : Swap} {f : Found} {wish : Bool} → s ≢ Swap.None → Edge i number Label.P6 s f wish Label.P7
  -- P8: done, so P9 and F1; else P10, where the wish is not looked at again
  P7-F1 : {a : Announcement} {wish : Bool} → a.flag ≡ Done → Edge i number Label.P7 Swap.None (Found.announcement a) wish Label.F1
  P7-P10 : {a : Announcement} {wish : Bool} → a.flag ≢ Done → Edge i number Label.P7 Swap.None (Found.announcement a) wish Label.P10
  -- P11: nobody holds the gate, so P12, C1 and C2; else P15 and P16
  P10-C2 : {g : Gate} {wish : Bool} → g.holder ≡ None → Edge i number Label.P10 Swap.None (Found.gate g) wish Label.C2
  P10-P16 : {g : Gate} {wish : Bool} → g.holder ≢ None → Edge i number Label.P10 Swap.None (Found.gate g) wish Label.P16
  -- C3: active, so P13; else C4
  C2-P13 : {a : Announcement} {wish : Bool} → a.flag ≡ Active → Edge i number Label.C2 Swap.None (Found.announcement a) wish Label.P13
  C2-C4 : {a : Announcement} {wish : Bool} → a.flag ≢ Active → Edge i number Label.C2 Swap.None (Found.announcement a) wish Label.C4
  -- C5: done, so F1; else C6 and P13
  C4-F1 : {a : Announcement} {wish : Bool} → a.flag ≡ Done → Edge i number Label.C4 Swap.None (Found.announcement a) wish Label.F1
  C4-P13 : {a : Announcement} {wish : Bool} → a.flag ≢ Done → Edge i number Label.C4 Swap.None (Found.announcement a) wish Label.P13
  -- P14 follows P13
  P13-P14 : {s : Swap} {f : Found} {wish : Bool} → s ≢ Swap.None → Edge i number Label.P13 s f wish Label.P14
  -- P15: somebody holds the gate, so P16; else P22
  P14-P16 : {g : Gate} {wish : Bool} → g.holder ≢ None → Edge i number Label.P14 Swap.None (Found.gate g) wish Label.P16
  P14-P22 : {g : Gate} {wish : Bool} → g.holder ≡ None → Edge i number Label.P14 Swap.None (Found.gate g) wish Label.P22
  -- P17: done or newer than the number, so P21; else P18 and Help (H1): its first access is H21 (H20), or it has none (a fault is one way, document
  -- 02, order 6) and P19 follows, as an empty dictionary has nothing to write (H31). Inside Help `HelpsAsDue` below says which of the edges is taken, and
  -- which record is accessed
  P16-P21 :
      {a : Announcement} {wish : Bool} → (a.flag ≡ Done) ⊎ (number < a.seq) →
      Edge i number Label.P16 Swap.None (Found.announcement a) wish Label.P21
  P16-H21 :
      {a : Announcement} {wish : Bool} → a.flag ≢ Done → a.seq ≤ number →
      Edge i number Label.P16 Swap.None (Found.announcement a) wish Label.H21
  P16-P19 :
      {a : Announcement} {wish : Bool} → a.flag ≢ Done → a.seq ≤ number →
      Edge i number Label.P16 Swap.None (Found.announcement a) wish Label.P19
  -- H22: newer than the number, so Help is left and P19 follows
  H21-P19-late : {r : Record} {wish : Bool} → number < r.seq → Edge i number Label.H21 Swap.None (Found.cell r) wish Label.P19
  -- H23 to H30: else the next first touch (H20), or the first write (H31, H32), or none, as nothing is altered or the program faulted, and P19
  H21-H21 : {r : Record} {wish : Bool} → r.seq ≤ number → Edge i number Label.H21 Swap.None (Found.cell r) wish Label.H21
  H21-H36 : {r : Record} {wish : Bool} → r.seq ≤ number → Edge i number Label.H21 Swap.None (Found.cell r) wish Label.H36
  H21-P19 : {r : Record} {wish : Bool} → r.seq ≤ number → Edge i number Label.H21 Swap.None (Found.cell r) wish Label.P19
  -- H31, H32: the next write, or none and P19
  H36-H36 : {s : Swap} {f : Found} {wish : Bool} → s ≢ Swap.None → Edge i number Label.H36 s f wish Label.H36
  H36-P19 : {s : Swap} {f : Found} {wish : Bool} → s ≢ Swap.None → Edge i number Label.H36 s f wish Label.P19
  -- P20 follows P19, and P21 P20, and P22 P21
  P19-P20 : {s : Swap} {f : Found} {wish : Bool} → s ≢ Swap.None → Edge i number Label.P19 s f wish Label.P20
  P20-P21 : {s : Swap} {f : Found} {wish : Bool} → s ≢ Swap.None → Edge i number Label.P20 s f wish Label.P21
  P21-P22 : {s : Swap} {f : Found} {wish : Bool} → s ≢ Swap.None → Edge i number Label.P21 s f wish Label.P22
  -- P4: active, so P5: with a wish P6, without one P10; done, so P23, P24 and F1
  P22-P6 : {a : Announcement} → a.flag ≡ Active → Edge i number Label.P22 Swap.None (Found.announcement a) true Label.P6
  P22-P10 : {a : Announcement} → a.flag ≡ Active → Edge i number Label.P22 Swap.None (Found.announcement a) false Label.P10
  P22-F1 : {a : Announcement} {wish : Bool} → a.flag ≡ Done → Edge i number Label.P22 Swap.None (Found.announcement a) wish Label.F1
  -- F2: the process itself holds the gate, so F3
  F1-F3 : {g : Gate} {wish : Bool} → g.holder ≡ Some i → Edge i number Label.F1 Swap.None (Found.gate g) wish Label.F3

-- THE ENDS: the access at which an operation of process i returns, and how.
pub data End (i : ℕ) : Label → Swap → Found → Event → Type 0 where
  -- P4, P23: the operation asked to exit and was not finished
  P22 : {a : Announcement} → a.flag ≡ Exit → End i Label.P22 Swap.None (Found.announcement a) (Event.returned Return.exited)
  -- F2, F4: another holds the gate, or nobody
  F1 : {g : Gate} {number : ℕ} {y : Yield} → g.holder ≢ Some i → End i Label.F1 Swap.None (Found.gate g) (Event.returned (Return.done number y))
  -- F4, won or lost
  F3 : {s : Swap} {f : Found} {number : ℕ} {y : Yield} → s ≢ Swap.None → End i Label.F3 s f (Event.returned (Return.done number y))

-- the same of an access that was made
abbrev pub Leads : ℕ → Made → Bool → Label → Type 0
Leads i m wish next = Edge i m.report.number m.report.label m.report.swap m.found wish next

abbrev pub Ends : ℕ → Made → Type 0
Ends i m = End i m.report.label m.report.swap m.found (event_of m.answer)

-- A path, newest access first: it begins with P1, and an edge leads from each access to the next; each but the newest was answered `run`.
pub data Path (i : ℕ) : List Made → Type 0 where
  none : Path i []
  first : {m : Made} → m.report.label ≡ Label.P1 → Path i (m ∷ [])
  next :
      {k m : Made} {ms : List Made} → m.answer ≡ Answer.Run → Leads i m k.wish k.report.label → Path i (m ∷ ms) →
      Path i (k ∷ m ∷ ms)

-- 'complete if it returned': the newest was answered `run`, or the path ends there
abbrev pub Whole : ℕ → List Made → Type 0
Whole i [] = Unit
Whole i (m ∷ ms) = (m.answer ≡ Answer.Run) ⊎ Ends i m

-- the gate number last read by these accesses, 0 if none has read it: an access of the gate reads it (P1, P10, P14, F1), but a swap only tells
-- whether it won (P13, P21, F3)
abbrev pub number_in : Found → ℕ → ℕ
number_in Found.nothing n = n
number_in (Found.gate g) n = g.seq
number_in (Found.announcement a) n = n
number_in (Found.cell r) n = n

abbrev pub unless_swap : {A : Type 0} → Swap → A → A → A
unless_swap Swap.None read n = read
unless_swap Swap.Lost read n = n
unless_swap Swap.Won read n = n

unfoldable pub last_number : List Made → ℕ
last_number [] = 0
last_number (m ∷ ms) = unless_swap m.report.swap (number_in m.found (last_number ms)) (last_number ms)

-- 'the gate number it last read in that operation, this step included'
abbrev pub NumbersRead : List Made → Type 0
NumbersRead [] = Unit
NumbersRead (m ∷ ms) = (m.report.number ≡ last_number (m ∷ ms)) × NumbersRead ms

-- INSIDE HELP (lines H7 and H20 to H32): which of its edges is taken, and with which record. From P16 to P19 an operation accesses records only, so that
-- its latest accesses of records are those of this helping.

-- the variable of a record
abbrev pub variable_in : Cell → ℕ
variable_in Cell.None = 0
variable_in Cell.Gate = 0
variable_in (Cell.Announcement m) = 0
variable_in (Cell.Record v) = v

-- lines H21 to H25: the record that was read is noted, unless it is newer than the number
abbrev pub with_read : ℕ → Cell → Record → Help → Help
with_read number x r h =
    cond (ltb number r.seq) h
    (record { variables = h.variables; program = h.program; inputs = h.inputs; reads = insert h.reads (item_of number (variable_in x) r) })

-- the helping after an access, by the one before it: P16 begins it, H21 reads, H36 is a swap
abbrev pub help_after : Found → Swap → ℕ → Cell → Help → Help → Help
help_after Found.nothing s number x begun h = h
help_after (Found.gate g) s number x begun h = h
help_after (Found.announcement a) s number x begun h = begun
help_after (Found.cell r) s number x begun h = unless_swap s (with_read number x r h) h

unfoldable pub help_in : List Made → Help
help_in [] = no_help
help_in (m ∷ ms) = help_after m.found m.report.swap m.report.number m.report.cell m.help (help_in ms)

-- what is due in a helping: the record of this variable is read (H21); or those of these are written (H36), in this sequence, and then P19 follows
pub data Due : Type 0 where
  read : ℕ → Due
  write : List ℕ → Due

-- lines H31 and H32: the variables with lower seq and altered value, in order of first touch. The test is written out as line H32 has it, apart from the
-- one that the machine goes by (`altered`)
unfoldable pub altered_in : ℕ → List Item → List ℕ
altered_in number [] = []
altered_in number (e ∷ es) =
    cond (ltb e.cell.seq number && not (eqb (current e.cell) e.value)) (e.variable ∷ altered_in number es) (altered_in number es)

-- lines H7, H20 and H31: the program, run from its start on the values read, lacks a variable, or faults and writes nothing (document 02, order 6), or ends
abbrev pub due_by : ℕ → Pause → Dictionary → Due
due_by number (Lacks v) d = Due.read v
due_by number Faulted d = Due.write []
due_by number Ended d = Due.write (altered_in number (noted d))

abbrev pub due_of : ℕ → Help → Due
due_of number h =
    let x = simulate h.variables h.program h.inputs started h.reads in
    due_by number x.pause x.dictionary

-- line H31: each once
abbrev pub after_write : Due → Due
after_write (Due.read v) = Due.read v
after_write (Due.write []) = Due.write []
after_write (Due.write (v ∷ vs)) = Due.write vs

-- what is due after an access: after P16 and H21 by the helping then, but nothing more after a record newer than the number (H22); after H36 the rest
abbrev pub due_after : Found → Swap → ℕ → Due → Due → Due
due_after Found.nothing s number begun before = Due.write []
due_after (Found.gate g) s number begun before = Due.write []
due_after (Found.announcement a) s number begun before = begun
due_after (Found.cell r) s number begun before = unless_swap s (cond (ltb number r.seq) (Due.write []) begun) (after_write before)

unfoldable pub due_in : List Made → Due
due_in [] = Due.write []
due_in (m ∷ ms) = due_after m.found m.report.swap m.report.number (due_of m.report.number (help_in (m ∷ ms))) (due_in ms)

-- the access that is due, by its label and its cell
pub data Comes : Due → Label → Cell → Type 0 where
  read : {v : ℕ} → Comes (Due.read v) Label.H21 (Cell.Record v)
  write : {v : ℕ} {vs : List ℕ} → Comes (Due.write (v ∷ vs)) Label.H36 (Cell.Record v)
  end : {x : Cell} → Comes (Due.write []) Label.P19 x

-- the accesses of Help, and the one that follows it
pub data FromH21ToP19 : Label → Type 0 where
  at-H21 : FromH21ToP19 Label.H21
  at-H36 : FromH21ToP19 Label.H36
  at-P19 : FromH21ToP19 Label.P19

-- each of these was due
abbrev pub HelpsAsDue : List Made → Type 0
HelpsAsDue [] = Unit
HelpsAsDue (m ∷ ms) = (FromH21ToP19 m.report.label → Comes (due_in ms) m.report.label m.report.cell) × HelpsAsDue ms

-- the accesses of an operation follow the lines
pub record Follows (i : ℕ) (ms : List Made) : Type 0 where
  pub path : Path i ms
  pub whole : Whole i ms
  pub numbers : NumbersRead ms
  pub helping : HelpsAsDue ms

-- THE ACCESSES OF AN OPERATION, by the run itself: whether a wish was taken since the latest taken call of process i, and the accesses of its accepted
-- steps since then, asked by `step` or by `trace`, newest first.
pub record Noticed : Type 0 where
  pub wish : Bool
  pub accesses : List Made

-- at opening, and at a taken call
abbrev pub unnoticed : Noticed
unnoticed = record { wish = false; accesses = [] }

-- an entry of process j with this answer, if it is one of process i and was not refused
abbrev pub if_taken : ℕ → ℕ → Answer → Noticed → Noticed → Noticed
if_taken i j a x y = cond (eqb j i && not (is_refused a)) x y

-- what an entry and its answer add
unfoldable pub noticed : Card → ℕ → Noticed → Entry → Answer → Noticed
noticed c i n (Entry.Call j k inputs) a = if_taken i j a unnoticed n
noticed c i n (Entry.Exit j) a = if_taken i j a (record { wish = true; accesses = n.accesses }) n
noticed c i n (Entry.Step j) a = if_taken i j a (record { wish = n.wish; accesses = made c i n.wish ∷ n.accesses }) n
noticed c i n (Entry.Trace j) a = if_taken i j a (record { wish = n.wish; accesses = made c i n.wish ∷ n.accesses }) n
noticed c i n (Entry.Read v) a = n
noticed c i n (Entry.Change k from t) a = n

unfoldable pub noticed_from : Card → ℕ → Noticed → List Entry → Noticed
noticed_from c i n [] = n
noticed_from c i n (e ∷ es) = noticed_from (act c e).card i (noticed c i n e (act c e).answer) es

abbrev pub accesses : Card → List Entry → ℕ → List Made
accesses o es i = (noticed_from o i unnoticed es).accesses
