-- A session of the bench program (document 01, 'The bench program'): from a card text and a calls text to the printed text.
use Rattle.std.specs.Prelude.{ℕ, ◌≤◌, ◌<◌, cond, ◌≡◌, List, [], ◌∷◌, ◌++◌, length, take, ltb, Ok, Err}
use Rattle.grammar.specs.Writing.{place_after, Put}
use Rattle.grammar.specs.Pieces.{Gathered, fitting, piece_into}
use Rattle.construction.specs.declared.{card.Card.Card, answers.Answered.Answered, answers.Report.Report, answers.Traced.Traced}
use Rattle.construction.specs.declared.answers.Refusal.TheVariants.{Malformed}
use Rattle.construction.specs.Requests.{refused}
use Rattle.construction.specs.Tracing.{no_report, trace}
use Rattle.construction.specs.History.{Entry, act}
use Rattle.construction.specs.Opening.{opened}
use Rattle.construction.specs.Types.{Verdict}
use Rattle.commands.specs.declared.{Command.Command, Parsed.Parsed}
use Rattle.commands.specs.Commands.{part, command, commands}
use Rattle.commands.specs.Printing.{line_text, longest, card_refusal, calls_refusal}
use Rattle.session.specs.declared.{State.State, Printed.Printed, Advanced.Advanced}

-- the entries that a command of the calls text t names: one, or none where it is malformed
abbrev pub entries_of : List ℕ → Command → List Entry
entries_of t (Command.Call i k x) = Entry.Call i k x ∷ []
entries_of t (Command.Exit i) = Entry.Exit i ∷ []
entries_of t (Command.Step i) = Entry.Step i ∷ []
entries_of t (Command.Trace i) = Entry.Trace i ∷ []
entries_of t (Command.Read v) = Entry.Read v ∷ []
entries_of t (Command.Change k from count start end) = Entry.Change k from (part t start end) ∷ []
entries_of t Command.Malformed = []

-- the card acts on that entry; a malformed command is refusal 2 and leaves the card as it was
abbrev pub execute_entries : Card → List Entry → Answered
execute_entries c [] = refused c Malformed
execute_entries c (e ∷ es) = act c e

-- what is told besides: of a traced step its report
abbrev pub told_of : Card → Command → Report
told_of c (Command.Call i k x) = no_report
told_of c (Command.Exit i) = no_report
told_of c (Command.Step i) = no_report
told_of c (Command.Trace i) = (trace c i).report
told_of c (Command.Read v) = no_report
told_of c (Command.Change k from count start end) = no_report
told_of c Command.Malformed = no_report

unfoldable pub execute : List ℕ → Card → Command → Traced
execute t c m =
    let r = execute_entries c (entries_of t m) in
    record { card = r.card; answer = r.answer; report = told_of c m }

-- 'It prints a line for each': the line of a command, and the session after it. N counts all lines from 1, those of the texts of changes too; line
-- numbers have 64 bits.
unfoldable pub line_of : List ℕ → State → Parsed → List ℕ
line_of t s m =
    let r = execute t s.card m.command in
    line_text s.line m.command r.report r.answer

unfoldable pub after_line : List ℕ → State → Parsed → State
after_line t s m = record { card = (execute t s.card m.command).card; at = m.next; line = place_after s.line m.lines }

-- a command carried out and not printed: the one at the session's place
unfoldable pub advanced : List ℕ → State → Advanced
advanced t s =
    let m = command t s.at in
    record { state = after_line t s m; command = m.command; answer = (execute t s.card m.command).answer }

-- the lines one after the other, the card going from command to command
unfoldable pub lines_of : List ℕ → State → List Parsed → List ℕ
lines_of t s [] = []
lines_of t s (m ∷ ms) = line_of t s m ++ lines_of t (after_line t s m) ms

unfoldable pub lines_text : List ℕ → State → List ℕ
lines_text t s = lines_of t s (commands t s.at)

-- the session that is left after the last line, and the entries of demand 3 that the commands name
unfoldable pub last_state : List ℕ → State → List Parsed → State
last_state t s [] = s
last_state t s (m ∷ ms) = last_state t (after_line t s m) ms

unfoldable pub entries : List ℕ → List Parsed → List Entry
entries t [] = []
entries t (m ∷ ms) = entries_of t m.command ++ entries t ms

-- What is printed before any command: nothing, or a refusal, past which no command is left. Calls over the limit print only that line, and
-- so does a refused card, 'judged before the calls'.
abbrev pub first_state : Card → State
first_state c = record { card = c; at = 0; line = 1 }

abbrev pub over_state : List ℕ → Card → State
over_state calls c = record { card = c; at = length calls; line = 1 }

abbrev pub calls_beginning : List ℕ → Card → Gathered State
calls_beginning calls c =
    cond (ltb 65536 (length calls))
    (record { text = calls_refusal; state = over_state calls c })
    (record { text = []; state = first_state c })

abbrev pub verdict_beginning : List ℕ → Card → Verdict → Gathered State
verdict_beginning calls c (Ok _) = calls_beginning calls c
verdict_beginning calls c (Err e) =
    record { text = card_refusal (Err e); state = over_state calls c }

unfoldable pub beginning : List ℕ → List ℕ → Gathered State
beginning card calls = verdict_beginning calls (opened card).card (opened card).verdict

-- the whole session: what the bench program prints for a card text and a calls text
unfoldable pub session : List ℕ → List ℕ → List ℕ
session card calls = (beginning card calls).text ++ lines_text calls (beginning card calls).state

-- the commands that are left of a session
abbrev pub commands_left : List ℕ → State → List Parsed
commands_left t s = commands t s.at

-- what is printed into a buffer: as many whole lines as it takes
unfoldable pub printed : List ℕ → State → List ℕ → Printed
printed t s b =
    let g = fitting (line_of t) (after_line t) s (commands_left t s) (length b) in
    record { state = g.state; length = length g.text }

-- the buffer then: those lines, after them as much of the next line as there is room for, and the other bytes as they were
abbrev pub printed_into : List ℕ → State → List ℕ → List ℕ
printed_into t s b = piece_into (line_of t) (after_line t) (commands_left t) s b

-- Printing into a buffer: the answer, the buffer, and that nothing of the session's text is lost; a buffer that has room for a line goes on.
pub record Prints (t : List ℕ) (s : State) (b : List ℕ) (r : Printed) (z : List ℕ) : Type 0 where
  pub answer : r ≡ printed t s b
  pub bytes : z ≡ printed_into t s b
  pub text : lines_text t s ≡ take r.length z ++ lines_text t r.state
  pub within : r.length ≤ length b
  pub onward : longest ≤ length b → s.at < length t → s.at < r.state.at

-- Starting a session with a buffer: what is printed and the session after it, the buffer, and that this and the lines that follow are all.
pub record Begins (x : Gathered State) (b : List ℕ) (r : Printed) (z : List ℕ) : Type 0 where
  pub state : r.state ≡ x.state
  pub put : Put b 0 x.text r.length z
  pub short : r.length ≤ longest

pub record Starts (card calls b : List ℕ) (r : Printed) (z : List ℕ) : Type 0 where
  pub begins : Begins (beginning card calls) b r z
  pub text : longest ≤ length b → session card calls ≡ take r.length z ++ lines_text calls r.state
