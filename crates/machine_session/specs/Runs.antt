-- A session of the program `machines` as a list of requests to machines that share a processor (document 02, order 14; crate shared_runs), and its printed
-- lines by their replies.
use Rattle.std.specs.Prelude.{ℕ, ◌≤◌, ◌≡◌, List, [], ◌∷◌, ◌++◌, map, length, get_or, take, drop, replicate, Ok}
use Rattle.grammar.specs.Writing.{place_after}
use Rattle.construction.specs.declared.{answers.Answer.Answer}
use Rattle.construction.specs.declared.answers.Refusal.TheVariants.{Malformed}
use Rattle.construction.specs.History.{Entry}
use Rattle.session.specs.Session.{entries_of}
use Rattle.allowance.specs.Requests as sharing
use Rattle.lent_runs.specs.Runs.{Reply, untraced}
use Rattle.shared_runs.specs.Runs.{Shared}
use Rattle.machine_commands.specs.declared.{Request.Request, Line.Line}
use Rattle.machine_commands.specs.Printing.{line_text}
use Rattle.machine_terms.specs.Terms.{terms}
use Rattle.machine_session.specs.Session.{Stage, stage, after_line}
use Rattle.machine_session.specs.Starting.{Cards, opened_cards}

-- what a line of the calls text t asks: a turn, or of a machine the entry that its command names; a malformed command asks nothing
abbrev pub asked : List ℕ → Request → List (sharing.Request Entry)
asked t (Request.To m c) = map (λ e. sharing.Request.To m e) (entries_of t c)
asked t Request.Turn = sharing.Request.Turn ∷ []

unfoldable pub requests_named : List ℕ → List Line → List (sharing.Request Entry)
requests_named t [] = []
requests_named t (m ∷ ms) = asked t m.request ++ requests_named t ms

-- the session after these lines; what the machines share in it, and their words
unfoldable pub last_stage : List ℕ → Stage → List Line → Stage
last_stage t s [] = s
last_stage t s (m ∷ ms) = last_stage t (after_line t s m) ms

abbrev pub shared_in : Stage → Shared
shared_in s = record { allowance = s.state.allowance; blocks = s.blocks; loans = s.loans }

-- the printed lines, from line n on, where the requests get these replies: each line takes the replies to what it asks, and one that asks nothing is refusal 2
unfoldable pub lines_with : List ℕ → ℕ → List Line → List Reply → List ℕ
lines_with t n [] rs = []
lines_with t n (m ∷ ms) rs =
    let k = length (asked t m.request) in
    let r = get_or (take k rs) 0 (untraced (Answer.Refused Malformed)) in
    line_text n m.request r.report r.answer ++ lines_with t (place_after n m.lines) ms (drop k rs)

-- the cards of the machines, opened into words that are 0; and the machines of an accepted opening, before any request
abbrev pub cards_of : List ℕ → List (List ℕ) → Cards
cards_of text cards = opened_cards (terms text).allowance.count 0 cards (replicate 5824 0)

abbrev pub first_stage : List ℕ → List (List ℕ) → Stage
first_stage text cards = stage (record { allowance = (terms text).allowance; at = 0; line = 1 }) (cards_of text cards).blocks (replicate 3072 0)

abbrev pub opened_shared : List ℕ → List (List ℕ) → Shared
opened_shared text cards = shared_in (first_stage text cards)

-- neither the terms nor a card nor the length of the calls is refused
pub record Accepted (text : List ℕ) (cards : List (List ℕ)) (calls : List ℕ) : Type 0 where
  pub agreed : (terms text).verdict ≡ Ok tt
  pub opened : (cards_of text cards).opened.verdict ≡ Ok tt
  pub short : length calls ≤ 65536
