-- The longest wait (document 02, order 3): 'An operation returns within 4 + (p + 1) × (10 + 2 × w) of its own accepted steps, 2 more if a wish was
-- taken, however the others are scheduled, as long as the step limit is not reached.' The field calls this wait-free.
use Rattle.std.specs.Prelude.{ℕ, suc, ◌+◌, ◌*◌, ◌≤◌, ◌<◌, ◌≡◌, Bool, true, cond, List}
use Rattle.construction.specs.Types.{Card, Refusal, LimitReached, Answer, Contents}
use Rattle.construction.specs.Weight.{card_weight}
use Rattle.construction.specs.Parts.{Local, contents_of, local_at}
use Rattle.construction.specs.Requests.{is_busy, step}
use Rattle.construction.specs.History.{Entry, act, run}

-- 'The handbook prints this number, without the wish', for p processes and the weight w
abbrev pub longest_wait : ℕ → ℕ → ℕ
longest_wait p w = 4 + (p + 1) * (10 + 2 * w)

-- of a card's text
abbrev pub wait_of : Contents → ℕ
wait_of t = longest_wait t.process_count (card_weight t)

-- '2 more if a wish was taken'
abbrev pub extra : Bool → ℕ
extra exit = cond exit 2 0

-- what the operation of a process may take: its exit request is noted in its own state
abbrev pub allowed : Contents → Local → ℕ
allowed t l = wait_of t + extra l.exit

-- an answer that tells the own steps of an operation that returns tells at most n
abbrev pub TellsAtMost : ℕ → Answer → Type 0
TellsAtMost n Answer.Taken = Unit
TellsAtMost n Answer.Run = Unit
TellsAtMost n (Answer.Done number o steps) = steps ≤ n
TellsAtMost n (Answer.Exited steps) = steps ≤ n
TellsAtMost n (Answer.Value x) = Unit
TellsAtMost n (Answer.Refused why) = Unit
TellsAtMost n (Answer.RefusedAt why line) = Unit

-- The opened card o after the list of entries es, for each process i of it. As the list is arbitrary, this holds at opening and after each entry.
pub record WaitFree (o : Card) (es : List Entry) : Type 0 where
  -- an operation still under way has made fewer own steps than it may take
  pub under_way :
      (i : ℕ) → i < o.process_count → is_busy (run o es).card i ≡ true →
      (local_at (run o es).card i).steps < allowed (contents_of o) (local_at (run o es).card i)
  -- one that returns at the next step tells at most that many
  pub returns :
      (i : ℕ) → i < o.process_count →
      TellsAtMost (allowed (contents_of o) (local_at (run o es).card i)) (step (run o es).card i).answer
  -- a step of a process under way is refused only by the limit
  pub refused :
      (i : ℕ) (why : Refusal) → i < o.process_count → is_busy (run o es).card i ≡ true →
      (step (run o es).card i).answer ≡ Answer.Refused why → (why ≡ LimitReached) × (o.limit ≤ (run o es).card.steps)
  -- one that is accepted and answers 'run' counts as one own step more
  pub counted :
      (i : ℕ) → i < o.process_count → (step (run o es).card i).answer ≡ Answer.Run →
      (local_at (step (run o es).card i).card i).steps ≡ suc (local_at (run o es).card i).steps
  -- and no entry takes an own step back from an operation under way
  pub kept :
      (i : ℕ) (e : Entry) → i < o.process_count → is_busy (run o es).card i ≡ true →
      (local_at (run o es).card i).steps ≤ (local_at (act (run o es).card e).card i).steps
