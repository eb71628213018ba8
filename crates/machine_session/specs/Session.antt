-- A session of the program `machines` (document 02, order 14; docs/FORMATS.md): the lines of a calls text, one for each request, and the pieces of them.
use Rattle.std.specs.Prelude.{ℕ, ◌+◌, ◌≤◌, ◌<◌, cond, ◌≡◌, List, [], ◌∷◌, ◌++◌, length, take, leb}
use Rattle.std.proofs.lemmas.List.Edits.{sets}
use Rattle.grammar.specs.Writing.{place_after}
use Rattle.machine_commands.specs.declared.Line.{Line}
use Rattle.machine_commands.specs.Requests.{requests}
use Rattle.machine_commands.specs.Printing.{line_text, longest}
use Rattle.machine_session.specs.declared.{State.State, Printed.Printed}
use Rattle.machine_session.specs.Answering.{Executed, executed}

-- a session with its words
pub record Stage : Type 0 where
  pub state : State
  pub blocks : List ℕ
  pub loans : List ℕ

abbrev pub stage : State → List ℕ → List ℕ → Stage
stage s bs ls = record { state = s; blocks = bs; loans = ls }

-- a request of the text t, carried out
abbrev pub outcome : List ℕ → Stage → Line → Executed
outcome t s m = executed t s.state.allowance s.blocks s.loans m.request

-- 'A line is printed for each': the line of a request, and the session after it. Lines are counted from 1, those of the texts of changes too.
unfoldable pub line_of : List ℕ → Stage → Line → List ℕ
line_of t s m =
    let x = outcome t s m in
    line_text s.state.line m.request x.told.report x.told.answer

unfoldable pub after_line : List ℕ → Stage → Line → Stage
after_line t s m =
    let x = outcome t s m in
    stage (record { allowance = x.told.allowance; at = m.next; line = place_after s.state.line m.lines }) x.blocks x.loans

-- the lines one after the other
unfoldable pub lines_of : List ℕ → Stage → List Line → List ℕ
lines_of t s [] = []
lines_of t s (m ∷ ms) = line_of t s m ++ lines_of t (after_line t s m) ms

unfoldable pub lines_text : List ℕ → Stage → List ℕ
lines_text t s = lines_of t s (requests t s.state.at)

-- Lines gathered so far, and the session after them.
pub record Gathered : Type 0 where
  pub text : List ℕ
  pub stage : Stage

-- the session in pieces: a line is made while the longest has room, as what a request does to the words is not undone
unfoldable pub gather : List ℕ → ℕ → Gathered → List Line → Gathered
gather t room g [] = g
gather t room g (m ∷ ms) =
    cond (leb (length g.text + longest) room)
    (gather t room (record { text = g.text ++ line_of t g.stage m; stage = after_line t g.stage m }) ms)
    g

unfoldable pub fitting : List ℕ → Stage → ℕ → Gathered
fitting t s room = gather t room (record { text = []; stage = s }) (requests t s.state.at)

-- Printing into a buffer: the session and the words after it, the buffer, and that nothing of the session's text is lost; a buffer that has room for the longest
-- line goes on.
pub record Prints (t : List ℕ) (s : State) (bs ls b : List ℕ) (r : Printed) (bs' ls' z : List ℕ) : Type 0 where
  pub session : record { state = r.state; blocks = bs'; loans = ls' } ≡ (fitting t (record { state = s; blocks = bs; loans = ls }) (length b)).stage
  pub size : r.length ≡ length (fitting t (record { state = s; blocks = bs; loans = ls }) (length b)).text
  pub bytes : z ≡ sets b 0 (fitting t (record { state = s; blocks = bs; loans = ls }) (length b)).text
  pub text :
      lines_text t (record { state = s; blocks = bs; loans = ls })
      ≡ take r.length z ++ lines_text t (record { state = r.state; blocks = bs'; loans = ls' })
  pub within : r.length ≤ length b
  pub onward : longest ≤ length b → s.at < length t → s.at < r.state.at
