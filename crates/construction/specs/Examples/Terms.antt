-- What a worked piece says: a card text, entries, and what is to be seen; and short names for entries, answers and cells.
use Rattle.std.specs.Prelude.{ℕ, zero, suc, ◌≡◌, false, List, [], ◌∷◌, ◌++◌, take, get_or, replicate, None, Some}
use Rattle.construction.specs.Types.{Gate, Flag, Done, Words, Yield, Announcement, Record, Card, Refusal}
use Rattle.construction.specs.Types.{Answer}
use Rattle.construction.specs.Cells.{fault_yield, open_record}
use Rattle.construction.specs.Opening.{opened}
use Rattle.construction.specs.History.{Entry, act}

-- the card and the answers after a list of entries
abbrev pub card_after : Card → List Entry → Card
card_after c [] = c
card_after c (e ∷ es) = card_after (act c e).card es

abbrev pub answers_to : Card → List Entry → List Answer
answers_to c [] = []
answers_to c (e ∷ es) = (act c e).answer ∷ answers_to (act c e).card es

-- a row: the answers, one for each entry, and at the end the gate, the announcements and the record of a variable
pub record Row : Type 0 where
  pub text : List ℕ
  pub entries : List Entry
  pub answers : List Answer
  pub gate : Gate
  pub announcements : List Announcement
  pub variable : ℕ
  pub cell : Record

abbrev pub Shows : Row → Card → Type 0
Shows r c =
    (c.gate ≡ r.gate)
    × (take c.process_count c.announcements ≡ r.announcements)
    × (get_or c.records r.variable (open_record 0) ≡ r.cell)

abbrev pub Holds : Row → Type 0
Holds r =
    (answers_to (opened r.text).card r.entries ≡ r.answers)
    × Shows r (card_after (opened r.text).card r.entries)

abbrev pub AllHold : List Row → Type 0
AllHold [] = Unit
AllHold (r ∷ rs) = Holds r × AllHold rs

-- short names for entries and answers
abbrev pub one : ℕ → Words
one x = record { w0 = x; w1 = 0; w2 = 0; w3 = 0 }

abbrev pub called : ℕ → Words → List Entry
called i inputs = Entry.Call i 0 inputs ∷ []

abbrev pub exit : ℕ → List Entry
exit i = Entry.Exit i ∷ []

abbrev pub steps : ℕ → ℕ → List Entry
steps i n = replicate n (Entry.Step i)

abbrev pub read_first : List Entry
read_first = Entry.Read 0 ∷ []

abbrev pub taken : List Answer
taken = Answer.Taken ∷ []

abbrev pub runs : ℕ → List Answer
runs n = replicate n Answer.Run

abbrev pub plain : Words → Yield
plain outputs = record { outputs = outputs; fault = false }

abbrev pub done : ℕ → Words → ℕ → List Answer
done number outputs own = Answer.Done number (plain outputs) own ∷ []

abbrev pub fault : ℕ → ℕ → List Answer
fault number own = Answer.Done number fault_yield own ∷ []

abbrev pub exited : ℕ → List Answer
exited own = Answer.Exited own ∷ []

abbrev pub shown : ℕ → List Answer
shown x = Answer.Value x ∷ []

abbrev pub refusal : Refusal → List Answer
refusal r = Answer.Refused r ∷ []

abbrev pub announcement : Flag → ℕ → ℕ → ℕ → Announcement
announcement flag seq number x = record { program = 0; flag = flag; seq = seq; number = number; words = one x; fault = false }

-- the gate, free or held by a process, with its number
abbrev pub free_gate : ℕ → Gate
free_gate seq = record { holder = None; seq = seq }

abbrev pub held_gate : ℕ → ℕ → Gate
held_gate i seq = record { holder = Some i; seq = seq }

-- an operation done under number 1, the first that its process announced
abbrev pub done_announcement : Yield → Announcement
done_announcement y = record { program = 0; flag = Done; seq = 1; number = 1; words = y.outputs; fault = y.fault }

-- an operation alone on its card: after the call its last step is answered done, under number 1, with what it yields, and the gate is free again
pub record Alone : Type 0 where
  pub text : List ℕ
  pub inputs : Words
  pub steps : ℕ
  pub yields : Yield
  pub variable : ℕ
  pub cell : Record

abbrev pub runs_before : ℕ → List Answer → List Answer
runs_before zero last = last
runs_before (suc n) last = runs n ++ last

abbrev pub alone : Alone → Row
alone a =
    record {
      text = a.text;
      entries = called 0 a.inputs ++ steps 0 a.steps;
      answers = taken ++ runs_before a.steps (Answer.Done 1 a.yields a.steps ∷ []);
      gate = free_gate 2;
      announcements = done_announcement a.yields ∷ [];
      variable = a.variable;
      cell = a.cell;
    }
