-- A program changed while the machine runs (document 02, order 11): 'A change names a sheet and a gate number G and brings that sheet's lines as a card has them.'
use Rattle.std.specs.Prelude.{ℕ, zero, suc, min, Bool, false, cond, not, ◌&&◌, ◌||◌, List, length, get_or, eqb, ltb, Ok, Err}
use Rattle.construction.specs.Types.{Gate, Program, Label, Idle, P1, Control, Card, Refusal, TooLong, Malformed, NoProgram, NotAhead, Unsettled, Answer}
use Rattle.construction.specs.Types.{Answered, Contents, Verdict}
use Rattle.construction.specs.Labels.{same_label}
use Rattle.construction.specs.Weight.{card_weight}
use Rattle.construction.specs.Parts.{idle_control, no_gate, contents_of, with_revision}
use Rattle.construction.specs.Requests.{is_program}
use Rattle.construction.specs.Opening.{program_refused_at, read_program}
use Rattle.construction.specs.Readings.{ProgramReading}

-- a refusal ends the reading; else 'nothing follows': a line left over is refusal 2
abbrev pub if_program_accepted : Verdict → ProgramReading → ProgramReading → ProgramReading
if_program_accepted (Ok _) r x = x
if_program_accepted (Err e) r x = r

abbrev pub program_then_end : List ℕ → ProgramReading → ProgramReading
program_then_end t r =
    if_program_accepted r.verdict r (cond (eqb r.at (length t)) r (program_refused_at Malformed r.line))

-- the text of one program and nothing after it, by the number of variables and the greatest weight: 'the text is judged as in a card'
abbrev pub program_text : ℕ → ℕ → List ℕ → ProgramReading
program_text n most t =
    cond (ltb 16384 (length t)) (program_refused_at TooLong 0) (program_then_end t (read_program n most t 0 1))

-- 'and 14 is also a text that counts more than the card's w, which stays that of the opening text whatever is changed'
unfoldable pub change_read : Contents → List ℕ → ProgramReading
change_read x t = program_text x.variable_count (min 32 (card_weight x)) t

-- an operation under way that has read a gate number: it is past P1, also where it has not announced itself yet (P3), or is done and has not returned
abbrev pub has_read : Label → Bool
has_read place = not (same_label place Idle || same_label place P1)

-- an operation under way last read a gate number below this one ('one that has read none doesn't count'), by the place of its process and the gate
-- that it last read
abbrev pub is_behind : Label → Gate → ℕ → Bool
is_behind place gate number = has_read place && ltb gate.seq number

-- so it is with some of the p processes, among the first n places
unfoldable pub some_behind : List Control → List Gate → ℕ → ℕ → ℕ → Bool
some_behind controls gates_read p number zero = false
some_behind controls gates_read p number (suc i) =
    (ltb i p && is_behind (get_or controls i idle_control).place (get_or gates_read i no_gate) number) || some_behind controls gates_read p number i

-- refusal 16: 'the last change of that sheet lies above the gate's number or some operation under way last read a gate number below it'
abbrev pub is_unsettled : Card → ℕ → Bool
is_unsettled c k =
    let from = get_or c.from k 0 in
    ltb c.gate.seq from || some_behind c.controls c.gates_read c.process_count from 8

-- 'A refused change gives the text's line, or 0 with 1, 6, 15 and 16', and leaves the card as it was
abbrev pub unchanged : Card → Refusal → ℕ → Answered
unchanged c why line = record { card = c; answer = Answer.RefusedAt why line }

-- a taken one changes its program and nothing else
abbrev pub changed : Card → ℕ → ℕ → Program → Answered
changed c k from y = record { card = with_revision c k from y; answer = Answer.Taken }

abbrev pub if_read : Verdict → Card → Answered → Answered
if_read (Ok _) c r = r
if_read (Err e) c r = unchanged c e.refusal e.line

-- change: refusals 6; 1, 2, 3, 4, 12, 13, 14 of the text; 15, 16
unfoldable pub change : Card → ℕ → ℕ → List ℕ → Answered
change c k from t =
    let x = change_read (contents_of c) t in
    cond (not (is_program c k)) (unchanged c NoProgram 0)
    (if_read x.verdict c
    (cond (not (ltb c.gate.seq from)) (unchanged c NotAhead 0)
    (cond (is_unsettled c k) (unchanged c Unsettled 0)
    (changed c k from x.program))))
