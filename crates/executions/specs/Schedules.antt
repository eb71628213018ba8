-- Every short schedule (document 02, order 13): the listing of a card, and apart from it what a schedule is that stands there.
use Rattle.std.specs.Prelude.{ℕ, zero, suc, ◌<◌, ◌≡◌, Bool, true, false, cond, not, ◌&&◌, ◌⊎◌, List, [], ◌∷◌, ◌++◌, map, length, get_or, take}
use Rattle.executions.specs.declared.Request.{Request}
use Rattle.construction.specs.declared.{card.Card.Card, answers.Answer.Answer, answers.Answered.Answered}
use Rattle.construction.specs.Cells.{zeros}
use Rattle.construction.specs.Answers.{is_refused}
use Rattle.construction.specs.Requests.{is_busy, step}
use Rattle.construction.specs.History.{Entry, act, Observation, run}

-- A line of the listing is an execution: a schedule, which is the processes that step one after the other, and the answers of its steps
pub record Execution : Type 0 where
  pub schedule : List ℕ
  pub answers : List Answer

abbrev pub empty_execution : Execution
empty_execution = record { schedule = []; answers = [] }

-- an execution with one step more at its front
abbrev pub preceded : ℕ → Answer → Execution → Execution
preceded i a r = record { schedule = i ∷ r.schedule; answers = a ∷ r.answers }

-- none of the first n processes has an operation under way
unfoldable pub is_quiet : Card → ℕ → Bool
is_quiet c zero = true
is_quiet c (suc n) = not (is_busy c n) && is_quiet c n

-- the executions that process i begins with an answered step: none where that is refused
abbrev pub branch : ℕ → Answered → (Card → List Execution) → List Execution
branch i r rest = cond (is_refused r.answer) [] (map (preceded i r.answer) (rest r.card))

-- the executions that m processes begin, from process k on
unfoldable pub branches : Card → (Card → List Execution) → ℕ → ℕ → List Execution
branches c rest zero k = []
branches c rest (suc m) k = branch k (step c k) rest ++ branches c rest m (suc k)

-- 'The listing recurs on the steps still to choose': where none is left, or nothing is under way, the empty schedule; else each process in turn,
-- and after its step the listing with one step fewer
unfoldable pub listing : ℕ → Card → List Execution
listing zero c = empty_execution ∷ []
listing (suc n) c = cond (is_quiet c c.process_count) (empty_execution ∷ []) (branches c (λ d. listing n d) c.process_count 0)

abbrev pub no_request : Request
no_request = record { program = 0; inputs = zeros }

-- 'one call per process made then': the entries of m calls, from process k on
unfoldable pub calls_from : List Request → ℕ → ℕ → List Entry
calls_from calls zero k = []
calls_from calls (suc m) k =
    let x = get_or calls k no_request in
    Entry.Call k x.program x.inputs ∷ calls_from calls m (suc k)

abbrev pub calls_of : Card → List Request → List Entry
calls_of o calls = calls_from calls o.process_count 0

-- each of these entries is taken, the first by the card, each later one by the card that the entry before returned
abbrev pub AllTaken : Card → List Entry → Type 0
AllTaken c [] = Unit
AllTaken c (e ∷ es) = ((act c e).answer ≡ Answer.Taken) × AllTaken (act c e).card es

-- the executions of the opened card o
unfoldable pub schedules : Card → List Request → ℕ → List Execution
schedules o calls L = listing L (run o (calls_of o calls)).card

-- Apart from the listing: the entries of a schedule, and the run of demand 3 over the calls and its steps
abbrev pub steps_of : List ℕ → List Entry
steps_of [] = []
steps_of (i ∷ s) = Entry.Step i ∷ steps_of s

abbrev pub scheduled : Card → List Request → List ℕ → Observation
scheduled o calls s = run o (calls_of o calls ++ steps_of s)

-- what its k-th step comes to, counted from 0: the step of its k-th process on the card after those before
abbrev pub step_at : Card → List Request → List ℕ → ℕ → Answered
step_at o calls s k = step (scheduled o calls (take k s)).card (get_or s k 0)

-- 'each schedule whose steps are all accepted and which has L steps, or fewer and leaves nothing under way'
pub record IsSchedule (o : Card) (calls : List Request) (L : ℕ) (s : List ℕ) : Type 0 where
  pub accepted : (k : ℕ) → k < length s → is_refused (step_at o calls s k).answer ≡ false
  pub ends :
      (length s ≡ L) ⊎
      ((length s < L) × ((i : ℕ) → i < o.process_count → is_busy (scheduled o calls s).card i ≡ false))

-- 'in dictionary order of process numbers': s stands strictly before t
pub data Before : List ℕ → List ℕ → Type 0 where
  shorter : {j : ℕ} {t : List ℕ} → Before [] (j ∷ t)
  lower : {i j : ℕ} {s t : List ℕ} → i < j → Before (i ∷ s) (j ∷ t)
  later : {i : ℕ} {s t : List ℕ} → Before s t → Before (i ∷ s) (i ∷ t)

-- the k-th execution, and a schedule's place among executions
abbrev pub execution_at : List Execution → ℕ → Execution
execution_at l k = get_or l k empty_execution

pub record Stands (s : List ℕ) (l : List Execution) : Type 0 where
  pub place : ℕ
  pub within : place < length l
  pub there : (execution_at l place).schedule ≡ s

-- These executions list every schedule of length L after the calls
pub record Lists (o : Card) (calls : List Request) (L : ℕ) (l : List Execution) : Type 0 where
  -- a schedule stands there if and only if it is one of those
  pub sound : (s : List ℕ) → Stands s l → IsSchedule o calls L s
  pub complete : (s : List ℕ) → IsSchedule o calls L s → Stands s l
  -- 'Each comes once, in dictionary order of process numbers'
  pub ordered : (j k : ℕ) → j < k → k < length l → Before (execution_at l j).schedule (execution_at l k).schedule
  pub once : (j k : ℕ) → j < length l → k < length l → (execution_at l j).schedule ≡ (execution_at l k).schedule → j ≡ k
  -- 'with its answers': one for each step, as the run of calls and steps has it
  pub counted : (k : ℕ) → k < length l → length (execution_at l k).answers ≡ length (execution_at l k).schedule
  pub answers :
      (k j : ℕ) → k < length l → j < length (execution_at l k).schedule →
      get_or (execution_at l k).answers j Answer.Run ≡ (step_at o calls (execution_at l k).schedule j).answer

-- the card after a schedule
abbrev pub after : Card → List ℕ → Card
after c [] = c
after c (i ∷ s) = after (step c i).card s
