-- The shared cells with the ghost state of the proof, what holds of them after every list of entries, and the moves that an entry makes.
use Prim.Native.Nat.{ℕ, suc, ◌+◌, ◌≤◌, ◌<◌}
use mathlib.Core.Path.{◌≡◌}
use mathlib.Core.Bool.{true, cond, ◌&&◌}
use lib.Dec.{eqb, leb}
use mathlib.Core.Logic.{◌≢◌, ◌⊎◌}
use mathlib.Core.List.{List, [], ◌∷◌, ◌++◌}
use lib.ListN.{length, get_or, set}
use Rattle.std.specs.Prelude.{Option, None, Some}
use Rattle.construction.specs.Types.{Gate, Done, Active, Exit, Yield, Announcement, Record, Program, Operation, Card}
use Rattle.construction.specs.Cells.{zeros, no_yield, yield_of, open_announcement, open_record, current, previous, rewritten}
use Rattle.construction.specs.Sequential.{Ending, sequential}
use Rattle.construction.specs.Parts.{no_operation}
use Rattle.construction.specs.Machine.{flagged, finished}
use Rattle.construction.proofs.Simulating.Sequential.{Short}

-- one number of the gate: the words before its operation, and what that was called with
pub record Round : Type 0 where
  pub words : List ℕ
  pub call : Operation

abbrev pub no_round : Round
no_round = record { words = []; call = no_operation }

-- what the rounds are measured by: the processes, the variables, and the text of each program that operations with a gate number run
pub record Frame : Type 0 where
  pub process_count : ℕ
  pub variable_count : ℕ
  pub program_at : ℕ → ℕ → Program

-- how the operation of a number ends in the sequential run
unfoldable pub ending_of : Frame → ℕ → Round → Ending
ending_of F number r =
    sequential F.variable_count (F.program_at r.call.program number) r.call.inputs r.words

-- what an operation came to that is done: its gate number and what it yields
pub record Result : Type 0 where
  pub number : ℕ
  pub yields : Yield

abbrev pub no_result : Result
no_result = record { number = 0; yields = no_yield }

-- The shared cells; the words of the sequential run; of each process its latest taken call and the result of its latest finished
-- operation. `left` is the last number under which a process gave back the gate, `bound` the gate's number at its exit request,
-- `rounds` one for each number of the gate so far (number 0 stands for the opening), `count` 1 more than the finished operations;
-- `texts` the text of each program under each number, by the changes taken (document 02, order 11).
pub record World : Type 0 where
  pub texts : ℕ → ℕ → Program
  pub gate : Gate
  pub announcements : List Announcement
  pub records : List Record
  pub words : List ℕ
  pub calls : List Operation
  pub results : List Result
  pub left : List ℕ
  pub bound : List ℕ
  pub rounds : List Round
  pub count : ℕ

-- the frame of a card with these texts, and in a world
abbrev pub frame_with : Card → (ℕ → ℕ → Program) → Frame
frame_with c texts = record { process_count = c.process_count; variable_count = c.variable_count; program_at = texts }

abbrev pub frame_of : Card → World → Frame
frame_of c w = frame_with c w.texts

abbrev pub announcement_in : World → ℕ → Announcement
announcement_in w j = get_or w.announcements j open_announcement

abbrev pub record_of : List Record → ℕ → Record
record_of records v = get_or records v (open_record 0)

abbrev pub record_in : World → ℕ → Record
record_in w v = record_of w.records v

abbrev pub left_in : World → ℕ → ℕ
left_in w j = get_or w.left j 0

abbrev pub bound_in : World → ℕ → ℕ
bound_in w j = get_or w.bound j 0

abbrev pub call_in : World → ℕ → Operation
call_in w j = get_or w.calls j no_operation

abbrev pub result_in : World → ℕ → Result
result_in w j = get_or w.results j no_result

abbrev pub round_of : List Round → ℕ → Round
round_of rounds s = get_or rounds s no_round

abbrev pub round_in : World → ℕ → Round
round_in w s = round_of w.rounds s

abbrev pub ending_in : Frame → World → ℕ → Ending
ending_in F w s = ending_of F s (round_in w s)

abbrev pub word_at : List ℕ → ℕ → ℕ
word_at l v = get_or l v 0

-- what an announcement asks for
abbrev pub operation_of : Announcement → Operation
operation_of a = record { program = a.program; inputs = a.words }

-- what an announcement says that is done
abbrev pub result_of : Announcement → Result
result_of a = record { number = a.number; yields = yield_of a }

-- the gate is held under seq for an operation that is not done: called for as o, announced as a
pub record Pending (seq count : ℕ) (words : List ℕ) (r : Round) (o : Operation) (a : Announcement) : Type 0 where
  pub counted : count ≡ seq
  pub now : r ≡ record { words = words; call = o }
  pub asked : operation_of a ≡ o

-- the gate is held for a process that called for o and announced a
abbrev pub Held : World → Operation → Announcement → Type 0
Held w o a =
    (length w.rounds ≡ suc w.gate.seq)
    × (a.flag ≡ Done → w.count ≡ suc w.gate.seq)
    × (a.flag ≢ Done → Pending w.gate.seq w.count w.words (round_in w w.gate.seq) o a)

abbrev pub Phase : Option ℕ → World → Type 0
Phase None w = (length w.rounds ≡ w.gate.seq) × (w.count ≡ w.gate.seq)
Phase (Some m) w = Held w (call_in w m) (announcement_in w m)

-- the rounds and the records: a round has a word for each variable; a record below number s has the value from before s, one of number s
-- has the values before and after s; what a finished operation altered is written; and where no operation is pending the records have the
-- words of the sequential run
pub record Recorded (F : Frame) (records : List Record) (rounds : List Round) (count : ℕ) (words : List ℕ) : Type 0 where
  pub sized : (s : ℕ) → s < length rounds → length (round_of rounds s).words ≡ F.variable_count
  pub below : (v : ℕ) → (record_of records v).seq < length rounds
  pub old :
      (s v : ℕ) → s < length rounds → v < F.variable_count → (record_of records v).seq < s →
      current (record_of records v) ≡ word_at (round_of rounds s).words v
  pub same :
      (v : ℕ) → v < F.variable_count → 0 < (record_of records v).seq →
      (previous (record_of records v) ≡ word_at (round_of rounds (record_of records v).seq).words v)
      × (current (record_of records v)
      ≡ word_at (ending_of F (record_of records v).seq (round_of rounds (record_of records v).seq)).words v)
  pub settled :
      (s v : ℕ) → s < count → v < F.variable_count → (record_of records v).seq < s →
      word_at (ending_of F s (round_of rounds s)).words v ≡ word_at (round_of rounds s).words v
  pub words_are : (v : ℕ) → v < F.variable_count → count ≡ length rounds → current (record_of records v) ≡ word_at words v

-- there is room for the processes, the variables and the lines of each program
pub record Fits (F : Frame) : Type 0 where
  pub few : F.process_count ≤ 8
  pub narrow : F.variable_count ≤ 64
  pub short : (k number : ℕ) → Short F.variable_count (F.program_at k number)

-- the lengths of what there is for each process and for each variable
pub record Lengths (a r c o l b : ℕ) : Type 0 where
  pub announcements : a ≡ 8
  pub records : r ≡ 64
  pub calls : c ≡ 8
  pub results : o ≡ 8
  pub left : l ≡ 8
  pub bound : b ≡ 8

-- what holds of the announcement of a process that called for o last and gave back the gate under `left` last, while the gate's number is seq
pub record AnnouncementInvariant (seq left : ℕ) (o : Operation) (a : Announcement) : Type 0 where
  pub below : a.seq ≤ seq
  pub fresh : a.flag ≢ Done → left < a.seq
  pub number_below : a.number ≤ seq
  pub unnumbered : a.flag ≢ Done → a.number ≡ 0
  pub marked : a.fault ≡ true → (a.flag ≡ Done) × (a.words ≡ zeros)
  pub active_operation : a.flag ≡ Active → operation_of a ≡ o

-- what holds of the world after every list of entries
pub record WorldInvariant (F : Frame) (w : World) : Type 0 where
  pub fits : Fits F
  pub lengths :
      Lengths (length w.announcements) (length w.records) (length w.calls) (length w.results) (length w.left)
      (length w.bound)
  pub size_words : length w.words ≡ F.variable_count
  pub left_below : (m : ℕ) → left_in w m < w.gate.seq
  pub bound_below : (m : ℕ) → bound_in w m ≤ w.gate.seq
  pub announced : (m : ℕ) → AnnouncementInvariant w.gate.seq (left_in w m) (call_in w m) (announcement_in w m)
  pub inside : (m : ℕ) → w.gate.holder ≡ Some m → m < F.process_count
  pub phase : Phase w.gate.holder w
  pub recorded : Recorded F w.records w.rounds w.count w.words

-- a world of its parts
abbrev world_from :
    (ℕ → ℕ → Program) → Gate → List Announcement → List Record → List ℕ → List Operation → List Result → List ℕ → List ℕ → List Round → ℕ → World
world_from texts gate announcements records words calls results left bound rounds count =
    record {
      texts = texts;
      gate = gate;
      announcements = announcements;
      records = records;
      words = words;
      calls = calls;
      results = results;
      left = left;
      bound = bound;
      rounds = rounds;
      count = count;
    }

-- the world with other shared cells, and with another ghost state
abbrev pub with_shared : World → Gate → List Announcement → List Record → World
with_shared w gate announcements records =
    world_from w.texts gate announcements records w.words w.calls w.results w.left w.bound w.rounds w.count

abbrev with_ghosts : World → List ℕ → List Operation → List Result → List ℕ → List ℕ → List Round → ℕ → World
with_ghosts w = world_from w.texts w.gate w.announcements w.records

-- a text is changed
abbrev pub changing : World → (ℕ → ℕ → Program) → World
changing w texts =
    world_from texts w.gate w.announcements w.records w.words w.calls w.results w.left w.bound w.rounds w.count

-- the texts with another one of program k from a number on
abbrev pub with_text : (ℕ → ℕ → Program) → ℕ → ℕ → Program → ℕ → ℕ → Program
with_text texts k from text j number = cond (eqb k j && leb from number) text (texts j number)

-- process i is called
abbrev pub asking : World → ℕ → Operation → World
asking w i q = with_ghosts w w.words (set w.calls i q) w.results w.left w.bound w.rounds w.count

-- process i announces its operation (P3)
abbrev pub announcing : World → ℕ → Announcement → World
announcing w i a = with_shared w w.gate (set w.announcements i a) w.records

-- process i asks to exit (P6)
abbrev pub leaving : World → ℕ → World
leaving w i =
    with_ghosts (announcing w i (flagged (announcement_in w i) Exit))
    w.words w.calls w.results w.left (set w.bound i w.gate.seq) w.rounds w.count

-- the gate is given to m (P13)
abbrev pub taking : World → ℕ → World
taking w m =
    with_ghosts (with_shared w (record { holder = Some m; seq = w.gate.seq }) w.announcements w.records)
    w.words w.calls w.results w.left w.bound (w.rounds ++ (record { words = w.words; call = call_in w m } ∷ [])) w.count

-- variable v is written (H36)
abbrev pub storing : World → ℕ → ℕ → World
storing w v x = with_shared w w.gate w.announcements (set w.records v (rewritten (record_in w v) x w.gate.seq))

-- the operation of m is finished (P19, P20)
abbrev pub ending : Frame → World → ℕ → World
ending F w m =
    with_ghosts (announcing w m (finished (announcement_in w m) w.gate (ending_in F w w.gate.seq).yields))
    (ending_in F w w.gate.seq).words w.calls
    (set w.results m (record { number = w.gate.seq; yields = (ending_in F w w.gate.seq).yields }))
    w.left w.bound w.rounds (suc w.count)

-- the gate is given back for m (P21, F3)
abbrev pub freeing : World → ℕ → World
freeing w m =
    with_ghosts (with_shared w (record { holder = None; seq = w.gate.seq + 1 }) w.announcements w.records)
    w.words w.calls w.results (set w.left m w.gate.seq) w.bound w.rounds w.count

-- no operation of j is announced, by its announcement a and its bound: j does not hold the gate g and will not be given it
pub record Silent (g : Gate) (a : Announcement) (bound j : ℕ) : Type 0 where
  pub not_active : a.flag ≢ Active
  pub free_of : g.holder ≢ Some j
  pub late : a.flag ≡ Exit → bound < g.seq

abbrev pub Quiet : World → ℕ → Type 0
Quiet w j = Silent w.gate (announcement_in w j) (bound_in w j) j

-- what an entry of process i may do to the world
pub data Move (F : Frame) (i : ℕ) (w : World) : World → Type 0 where
  stay : Move F i w w
  ask : (q : Operation) → i < F.process_count → Quiet w i → Move F i w (asking w i q)
  announce :
      (a : Announcement) → i < F.process_count → Quiet w i → a.flag ≡ Active →
      AnnouncementInvariant w.gate.seq (left_in w i) (call_in w i) a → Move F i w (announcing w i a)
  leave : i < F.process_count → (announcement_in w i).flag ≡ Active → Move F i w (leaving w i)
  take :
      (m : ℕ) → m < F.process_count → w.gate.holder ≡ None → (announcement_in w m).flag ≢ Done →
      operation_of (announcement_in w m) ≡ call_in w m →
      (m ≡ i) ⊎ ((announcement_in w m).flag ≡ Exit → w.gate.seq ≤ bound_in w m) → Move F i w (taking w m)
  write :
      (m v x : ℕ) → v < F.variable_count → w.gate.holder ≡ Some m → (announcement_in w m).flag ≢ Done →
      (record_in w v).seq < w.gate.seq →
      x ≡ word_at (ending_in F w w.gate.seq).words v → Move F i w (storing w v x)
  end :
      (m : ℕ) → m < F.process_count → w.gate.holder ≡ Some m → (announcement_in w m).flag ≢ Done →
      ((v : ℕ) → v < F.variable_count → (record_in w v).seq < w.gate.seq →
      word_at (ending_in F w w.gate.seq).words v ≡ word_at (round_in w w.gate.seq).words v) →
      Move F i w (ending F w m)
  free : (m : ℕ) → m < F.process_count → w.gate.holder ≡ Some m → (announcement_in w m).flag ≡ Done → Move F i w (freeing w m)
