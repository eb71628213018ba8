-- Call, exit request (document 01: wish), step and read (document 01: look), with refusals 5 to 10 (document 01, 'Turned back').
use Rattle.std.specs.Prelude.{ℕ, Bool, true, false, cond, not, ◌&&◌, eqb, ltb, Option, None, Some}
use Rattle.construction.specs.Types.{Gate, Flag, Done, Active, Exit, Words, Announcement, Record, Label, Idle, P1, Card, Refusal}
use Rattle.construction.specs.Types.{NoProcess, NoProgram, Busy, NotBusy, NoPlace, LimitReached, Answer, Answered}
use Rattle.construction.specs.Labels.{same_label}
use Rattle.construction.specs.Cells.{yield_of, is_done, current, previous}
use Rattle.construction.specs.Parts.{Local, local_at, announcement_at, record_at, with_local}
use Rattle.construction.specs.Machine.{holder_of, advance}

-- a card has room for 8 processes, 8 programs and 64 variables
abbrev pub is_process : Card → ℕ → Bool
is_process c i = ltb i c.process_count && ltb i 8

abbrev pub is_program : Card → ℕ → Bool
is_program c k = ltb k c.program_count && ltb k 8

abbrev pub is_variable : Card → ℕ → Bool
is_variable c v = ltb v c.variable_count && ltb v 64

-- a process has no operation under way
abbrev pub is_idle : Label → Bool
is_idle place = same_label place Idle

-- process i has an operation under way
abbrev pub is_busy : Card → ℕ → Bool
is_busy c i = not (is_idle (local_at c i).control.place)

-- an entry that is refused leaves the card as it was
abbrev pub refused : Card → Refusal → Answered
refused c r = record { card = c; answer = Answer.Refused r }

-- a process takes up an operation; an earlier exit request is over and its own steps count anew
abbrev pub invoked : Local → ℕ → Words → Local
invoked l k inputs =
    record {
      control = record { place = P1; target = 0 };
      operation = record { program = k; inputs = inputs };
      exit = false;
      steps = 0;
      gate = l.gate;
      announcement = l.announcement;
      simulation = l.simulation;
      dictionary = l.dictionary;
      mask = l.mask;
    }

-- a process with an exit request, or without; and one that is asked to exit
abbrev pub with_request : Local → Bool → Local
with_request l exit =
    record {
      control = l.control;
      operation = l.operation;
      exit = exit;
      steps = l.steps;
      gate = l.gate;
      announcement = l.announcement;
      simulation = l.simulation;
      dictionary = l.dictionary;
      mask = l.mask;
    }

abbrev pub exiting : Local → Local
exiting l = with_request l true

-- call: refusals 5, 6, 7
unfoldable pub call : Card → ℕ → ℕ → Words → Answered
call c i k inputs =
    cond (not (is_process c i)) (refused c NoProcess)
    (cond (not (is_program c k)) (refused c NoProgram)
    (cond (is_busy c i) (refused c Busy)
    (record { card = with_local c i (invoked (local_at c i) k inputs); answer = Answer.Taken })))

-- exit request: refusals 5, 8. 'A wish lasts until the operation returns; a second one is taken and alters nothing.'
unfoldable pub request_exit : Card → ℕ → Answered
request_exit c i =
    cond (not (is_process c i)) (refused c NoProcess)
    (cond (not (is_busy c i)) (refused c NotBusy)
    (record { card = with_local c i (exiting (local_at c i)); answer = Answer.Taken }))

-- lines P23, P24 and F4: exited, or done with the gate number of the announcement last read and what that yields. An active flag cannot occur: an operation returns at P22
-- if that read exit, and at F1 or F3, which only reads of done lead to, and neither alters the announcement last read. As for every flag there is
-- an answer, that case is given like done, which leaves exited to the flag exit alone.
abbrev pub returned : Announcement → Flag → ℕ → Answer
returned a Done steps = Answer.Done a.number (yield_of a) steps
returned a Active steps = Answer.Done a.number (yield_of a) steps
returned a Exit steps = Answer.Exited steps

-- 'Returning is local work of the last access': the answer to a step, by the place after it, the announcement last read and the own steps; ..
abbrev pub step_answer : Label → Announcement → ℕ → Answer
step_answer place a steps = cond (is_idle place) (returned a a.flag steps) Answer.Run

-- .. of a process
abbrev pub answer_of : Local → Answer
answer_of l = step_answer l.control.place l.announcement l.steps

-- step: refusals 5, 8, 10
unfoldable pub step : Card → ℕ → Answered
step c i =
    cond (not (is_process c i)) (refused c NoProcess)
    (cond (not (is_busy c i)) (refused c NotBusy)
    (cond (not (ltb c.steps c.limit)) (refused c LimitReached)
    (record { card = advance c i; answer = answer_of (local_at (advance c i) i) })))

-- the gate has a holder whose flag is not done: by the announcement of that holder
abbrev pub pending : Option ℕ → Announcement → Bool
pending None a = false
pending (Some m) a = not (is_done a.flag)

abbrev pub unfinished : Gate → Announcement → Record → Bool
unfinished g a r = pending g.holder a && eqb r.seq g.seq

-- 'Look shows variable v: val[1 - toggle] if the gate has a holder whose flag is not done and v's record has the gate's seq; otherwise val[toggle]',
-- by the gate, the announcement of its holder and v's record; ..
abbrev pub shown : Gate → Announcement → Record → ℕ
shown g a r = cond (unfinished g a r) (previous r) (current r)

-- .. on a card
unfoldable pub value_of : Card → ℕ → ℕ
value_of c v = shown c.gate (announcement_at c (holder_of c.gate.holder)) (record_at c v)

-- read: refusal 9
unfoldable pub read : Card → ℕ → Answered
read c v =
    cond (not (is_variable c v)) (refused c NoPlace) (record { card = c; answer = Answer.Value (value_of c v) })
