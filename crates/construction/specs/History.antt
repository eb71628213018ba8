-- What happens beside a card (document 01, 'Card and bench side by side'): entries, the run over a list of them, and the history that an observer keeps.
use Rattle.std.specs.Prelude.{ℕ, suc, Bool, true, false, cond, not, ◌&&◌, List, [], ◌∷◌, length, take, get_or, eqb, leb}
use Rattle.construction.specs.Types.{Words, Yield, Announcement, Program, Card, Answer, Answered, Contents}
use Rattle.construction.specs.Cells.{FitsWords, zeros, is_done}
use Rattle.construction.specs.Sequential.{Ending, sequential}
use Rattle.construction.specs.Instructions.{no_program}
use Rattle.construction.specs.Parts.{contents_of}
use Rattle.construction.specs.Requests.{call, request_exit, step, read}
use Rattle.construction.specs.Tracing.{trace, untold}
use Rattle.construction.specs.Changes.{change_read, change}

-- 'Its entries are call, wish, step and look with any numbers, taken or refused, and every call altering the card that an order adds': a step
-- that is traced (document 02, order 1), and a change of a program (order 11) with the bytes of its text
pub data Entry : Type 0 where
  Call : (process program : ℕ) → Words → Entry
  Exit : (process : ℕ) → Entry
  Step : (process : ℕ) → Entry
  Trace : (process : ℕ) → Entry
  Read : (variable : ℕ) → Entry
  Change : (program from : ℕ) (text : List ℕ) → Entry

abbrev pub act : Card → Entry → Answered
act c (Entry.Call i k inputs) = call c i k inputs
act c (Entry.Exit i) = request_exit c i
act c (Entry.Step i) = step c i
act c (Entry.Trace i) = untold (trace c i)
act c (Entry.Read v) = read c v
act c (Entry.Change k from t) = change c k from t

-- the inputs of a call are 32-bit words, as the functions' types have it
abbrev pub FitsEntry : Entry → Type 0
FitsEntry (Entry.Call i k inputs) = FitsWords inputs
FitsEntry (Entry.Exit i) = Unit {0}
FitsEntry (Entry.Step i) = Unit {0}
FitsEntry (Entry.Trace i) = Unit {0}
FitsEntry (Entry.Read v) = Unit {0}
FitsEntry (Entry.Change k from t) = Unit {0}

abbrev pub FitEntries : List Entry → Type 0
FitEntries [] = Unit {0}
FitEntries (e ∷ es) = FitsEntry e × FitEntries es

-- an entry that steps process i
pub data Steps : Entry → ℕ → Type 0 where
  by_step : {i : ℕ} → Steps (Entry.Step i) i
  by_trace : {i : ℕ} → Steps (Entry.Trace i) i

-- 'An operation is a taken call.' Operations are numbered from 0 in the order of their calls.
pub record Invocation : Type 0 where
  pub process : ℕ
  pub program : ℕ
  pub inputs : Words

-- a change that was taken: operations numbered `from` or later run the text
pub record Replacement : Type 0 where
  pub program : ℕ
  pub from : ℕ
  pub text : Program

-- an operation that finishes: its number, its gate number, and what the bench got for it
pub record Finish : Type 0 where
  pub operation : ℕ
  pub gate : ℕ
  pub yields : Yield

-- how an operation returned: done (or `fault`, document 02, order 6), with the gate number of its answer and what that yields, or exited
pub data Return : Type 0 where
  done : (number : ℕ) (yields : Yield) → Return
  exited : Return

-- an operation that returned, and how
pub record Response : Type 0 where
  pub operation : ℕ
  pub return : Return

-- what an answer says of operations: one is taken up, one returns and how, or neither
pub data Event : Type 0 where
  taken : Event
  returned : Return → Event
  none : Event

abbrev pub event_of : Answer → Event
event_of Answer.Taken = Event.taken
event_of Answer.Run = Event.none
event_of (Answer.Done number y steps) = Event.returned (Return.done number y)
event_of (Answer.Exited steps) = Event.returned Return.exited
event_of (Answer.Value x) = Event.none
event_of (Answer.Refused r) = Event.none
event_of (Answer.RefusedAt r line) = Event.none

-- what an observer notes, newest first: the operations, those that finished, those that returned, the changes taken; and the bench's words
pub record History : Type 0 where
  pub operations : List Invocation
  pub order : List Finish
  pub returns : List Response
  pub changes : List Replacement
  pub words : List ℕ

-- a process has a taken call
unfoldable pub has_called : List Invocation → ℕ → Bool
has_called [] i = false
has_called (x ∷ xs) i = cond (eqb x.process i) true (has_called xs i)

-- the number of a process's latest taken call, and that call
unfoldable pub latest : List Invocation → ℕ → ℕ
latest [] i = 0
latest (x ∷ xs) i = cond (eqb x.process i) (length xs) (latest xs i)

unfoldable pub latest_call : List Invocation → ℕ → Invocation
latest_call [] i = record { process = i; program = 0; inputs = zeros }
latest_call (x ∷ xs) i = cond (eqb x.process i) x (latest_call xs i)

-- the operation with a number
unfoldable pub operation_at : List Invocation → ℕ → Invocation
operation_at [] k = record { process = 0; program = 0; inputs = zeros }
operation_at (x ∷ xs) k = cond (eqb (length xs) k) x (operation_at xs k)

-- the processes, numbered from k, whose flags turn from not done to done
unfoldable pub turned : ℕ → List Announcement → List Announcement → List ℕ
turned k [] bs = []
turned k (a ∷ l) [] = []
turned k (a ∷ l) (b ∷ bs) =
    cond (not (is_done a.flag) && is_done b.flag) (k ∷ turned (suc k) l bs) (turned (suc k) l bs)

-- the processes whose operations finish between two cards
abbrev pub finishing : Card → Card → List ℕ
finishing c d = turned 0 c.announcements d.announcements

-- 'Operations numbered G or later run the new text, .. earlier ones the old': the text of program k for the bench's number-th operation is that of the
-- newest change of k from that number or an earlier one on, and else the opening text
unfoldable pub text_at : Contents → List Replacement → ℕ → ℕ → Program
text_at x [] k number = get_or x.programs k no_program
text_at x (y ∷ ys) k number = cond (eqb y.program k && leb y.from number) y.text (text_at x ys k number)

-- the bench runs an operation as its number-th, by the text of the opened card o and the changes it was told of
abbrev pub bench_run : Card → List Replacement → ℕ → Invocation → List ℕ → Ending
bench_run o changes number x words = sequential o.variable_count (text_at (contents_of o) changes x.program number) x.inputs words

-- the operations of these processes finish, under the gate number `gate`
abbrev pub with_finish : Card → ℕ → ℕ → History → History
with_finish o gate i s =
    let e = bench_run o s.changes (suc (length s.order)) (latest_call s.operations i) s.words in
    record {
      operations = s.operations;
      order = record { operation = latest s.operations i; gate = gate; yields = e.yields } ∷ s.order;
      returns = s.returns;
      changes = s.changes;
      words = e.words;
    }

unfoldable pub with_finishes : Card → ℕ → List ℕ → History → History
with_finishes o gate [] s = s
with_finishes o gate (i ∷ is) s = with_finishes o gate is (with_finish o gate i s)

-- an operation begins at a taken call
abbrev pub with_invocation : History → Invocation → Event → History
with_invocation s x Event.taken =
    record { operations = x ∷ s.operations; order = s.order; returns = s.returns; changes = s.changes; words = s.words }
with_invocation s x (Event.returned r) = s
with_invocation s x Event.none = s

-- 'It is under way until it returns: at the accepted step of its process that does not answer 'run''
abbrev pub with_response : History → ℕ → Event → History
with_response s i Event.taken = s
with_response s i (Event.returned r) =
    record {
      operations = s.operations;
      order = s.order;
      returns = record { operation = latest s.operations i; return = r } ∷ s.returns;
      changes = s.changes;
      words = s.words;
    }
with_response s i Event.none = s

-- 'The single-user bench is also told of each taken change, of no refused one'
abbrev pub with_change : History → Replacement → Event → History
with_change s x Event.taken =
    record { operations = s.operations; order = s.order; returns = s.returns; changes = x ∷ s.changes; words = s.words }
with_change s x (Event.returned r) = s
with_change s x Event.none = s

-- what an entry and its answer say: calls begin operations, steps end them, changes are told with the program that their text says
abbrev pub with_entry : Card → History → Entry → Event → History
with_entry o s (Entry.Call i k inputs) e = with_invocation s (record { process = i; program = k; inputs = inputs }) e
with_entry o s (Entry.Exit i) e = s
with_entry o s (Entry.Step i) e = with_response s i e
with_entry o s (Entry.Trace i) e = with_response s i e
with_entry o s (Entry.Read v) e = s
with_entry o s (Entry.Change k from t) e = with_change s (record { program = k; from = from; text = (change_read (contents_of o) t).program }) e

-- the card and the notes
pub record Observation : Type 0 where
  pub card : Card
  pub history : History

-- 'At opening the bench has the starting values'
abbrev pub start_words : Card → List ℕ
start_words o = take o.variable_count o.starts

abbrev pub opening : Card → Observation
opening o =
    record {
      card = o;
      history = record { operations = []; order = []; returns = []; changes = []; words = start_words o };
    }

-- one entry: the card acts; the observer notes by the cells before and after which operations finish, and then by the answer what begins and ends
unfoldable pub observe : Card → Observation → Entry → Observation
observe o m e =
    let r = act m.card e in
    record {
      card = r.card;
      history =
          with_entry o (with_finishes o m.card.gate.seq (finishing m.card r.card) m.history) e (event_of r.answer);
    }

-- 'The first entry gets the card as its text opened it, each later one the card that the entry before returned'
unfoldable pub observe_all : Card → Observation → List Entry → Observation
observe_all o m [] = m
observe_all o m (e ∷ es) = observe_all o (observe o m e) es

abbrev pub run : Card → List Entry → Observation
run o es = observe_all o (opening o) es
