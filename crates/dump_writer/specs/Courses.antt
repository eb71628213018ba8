-- A session as a dump (document 02, order 7): the course of its commands from the opening, and what is put of it into a buffer, whole or in pieces.
use Rattle.std.specs.Prelude.{ℕ, zero, suc, ◌+◌, ◌≤◌, ◌<◌, min, Bool, true, false, cond, not, ◌&&◌, List, [], ◌∷◌, ◌++◌, ◌≡◌, length, get_or, set, take, eqb}
use Rattle.grammar.specs.Writing.{place_after, Put}
use Rattle.construction.specs.declared.{cells.Gate.Gate, cells.Announcement.Announcement, cells.Record.Record, answers.Answer.Answer}
use Rattle.construction.specs.Answers.{is_refused}
use Rattle.construction.specs.Cells.{open_record}
use Rattle.construction.specs.Requests.{shown}
use Rattle.construction.specs.Opening.{opened}
use Rattle.construction.specs.Types.{Written}
use Rattle.commands.specs.declared.{Command.Command, Parsed.Parsed}
use Rattle.commands.specs.Commands.{commands}
use Rattle.session.specs.declared.State.{State}
use Rattle.session.specs.Session.{advanced, entries}
use Rattle.dump.specs.Dump.{Change, change, changes_at, changes_from, changes_text, told_after, lines_text, opening_text, written, written_into}
use Rattle.dump.specs.Histories.{row_of, rows_of, dump_of}
use Rattle.grammar.specs.Pieces.{fitting, piece_into}
use Rattle.dump_writer.specs.declared.{Told.Told, Course.Course, Piece.Piece}

-- the values of m variables from v on, by the gate, the announcement of its holder and the records
unfoldable pub shown_from : Gate → Announcement → List Record → ℕ → ℕ → List ℕ → List ℕ
shown_from g a records zero v row = row
shown_from g a records (suc m) v row = shown_from g a records m (suc v) (set row v (shown g a (get_or records v (open_record 0))))

-- the change of one variable, or none
abbrev pub change_of : ℕ → ℕ → ℕ → ℕ → List Change
change_of k v x y = cond (eqb x y) [] (change k v y ∷ [])

-- changes put into a buffer: their lines, and the time that is told then
pub record Tells (b : List ℕ) (at told : ℕ) (cs : List Change) (r : Told) (z : List ℕ) : Type 0 where
  pub put : Put b at (changes_text told cs) r.at z
  pub time : r.time ≡ told_after told cs

-- a command that steps a process, and one that was accepted
abbrev pub steps_in : Command → Bool
steps_in (Command.Call i k x) = false
steps_in (Command.Exit i) = false
steps_in (Command.Step i) = true
steps_in (Command.Trace i) = true
steps_in (Command.Read v) = false
steps_in (Command.Change k from count start end) = false
steps_in Command.Malformed = false

abbrev pub counts_in : Command → Answer → Bool
counts_in m a = steps_in m && not (is_refused a)

-- a card has room for 64 variables
abbrev pub count_of : Course → ℕ
count_of x = min 64 x.count

-- the changes of the next command, their lines, and the course after it
abbrev pub next_changes : List ℕ → Course → List Change
next_changes t x = changes_at (place_after x.steps 1) (count_of x) 0 x.row (row_of (advanced t x.session).state.card)

unfoldable pub next_text : List ℕ → Course → List ℕ
next_text t x =
    let a = advanced t x.session in
    cond (counts_in a.command a.answer) (changes_text x.told (next_changes t x)) []

unfoldable pub next_course : List ℕ → Course → Course
next_course t x =
    let a = advanced t x.session in
    cond (counts_in a.command a.answer)
    (record {
      session = a.state;
      count = x.count;
      row = row_of a.state.card;
      steps = place_after x.steps 1;
      told = told_after x.told (next_changes t x);
    })
    (record { session = a.state; count = x.count; row = x.row; steps = x.steps; told = x.told })

-- the most bytes that a command changes a dump by: a time of 20 digits and 64 values of 32
abbrev pub longest : ℕ
longest = 2326

pub record PutsCommand (t : List ℕ) (x : Course) (b : List ℕ) (at : ℕ) (r : Piece) (z : List ℕ) : Type 0 where
  pub put : Put b at (next_text t x) r.at z
  pub course : r.course ≡ next_course t x
  pub short : r.at ≤ at + longest

-- the rows that are left of a course, and their text up to the last time
abbrev pub left_rows : List ℕ → Course → List (List ℕ)
left_rows t x = rows_of x.session.card (entries t (commands t x.session.at))

unfoldable pub left_text : List ℕ → Course → List ℕ
left_text t x =
    lines_text x.told (x.steps + length (left_rows t x)) (changes_from (count_of x) x.steps x.row (left_rows t x))

-- the course of a session from a state on
abbrev pub start_course : State → Course
start_course s = record { session = s; count = min 64 s.card.variable_count; row = row_of s.card; steps = 0; told = 0 }

pub record Opens (s : State) (b : List ℕ) (r : Piece) (z : List ℕ) : Type 0 where
  pub course : r.course ≡ start_course s
  pub put : Put b 0 (opening_text (min 64 s.card.variable_count) (row_of s.card)) r.at z

-- the dump of a card text and a calls text
unfoldable pub dump_text : List ℕ → List ℕ → List ℕ
dump_text card calls = dump_of (opened card).card (entries calls (commands calls 0))

-- The course in pieces: what each of the commands that are left changes, as many whole commands as fit
abbrev pub part_of : List ℕ → Course → Parsed → List ℕ
part_of t x m = next_text t x

abbrev pub course_after : List ℕ → Course → Parsed → Course
course_after t x m = next_course t x

abbrev pub commands_left : List ℕ → Course → List Parsed
commands_left t x = commands t x.session.at

unfoldable pub piece_of : List ℕ → Course → List ℕ → Piece
piece_of t x b =
    let g = fitting (part_of t) (course_after t) x (commands_left t x) (length b) in
    record { course = g.state; at = length g.text }

-- A piece of a course: the answer, the buffer, and that nothing of the course's text is lost; a buffer that has room for a command goes on. A course that
-- started at its opening has no more accepted steps than bytes of its commands.
pub record PutsPiece (t : List ℕ) (x : Course) (b : List ℕ) (r : Piece) (z : List ℕ) : Type 0 where
  pub answer : r ≡ piece_of t x b
  pub bytes : z ≡ piece_into (part_of t) (course_after t) (commands_left t) x b
  pub text : x.steps ≤ x.session.at → left_text t x ≡ take r.at z ++ left_text t r.course
  pub within : r.at ≤ length z
  pub kept : x.steps ≤ x.session.at → r.course.steps ≤ r.course.session.at
  pub onward : longest ≤ length b → x.session.at < length t → x.session.at < r.course.session.at

-- what the writer does with a lent buffer
pub record Writes (card calls b : List ℕ) (r : Written) (z : List ℕ) : Type 0 where
  pub answer : r ≡ written (dump_text card calls) b
  pub bytes : z ≡ written_into (dump_text card calls) b
