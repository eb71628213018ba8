-- Steps by a schedule on a card in lent words, a process called again as soon as its operation returns (document 02, order 12: 'eight processes called again and
-- again'): the fold of the single requests (`answer_to`, `step_block`, `step_loan` of lent_steps, `call_block` of lent_card) over the schedule, a process each.
-- A step that is refused alters and counts nothing; a call that is refused leaves its process idle, and so does a table that has not all five words of it.
use Rattle.std.specs.Prelude.{ℕ, ◌+◌, ◌<◌, max, ◌≡◌, Bool, true, false, cond, not, ◌&&◌, List, [], ◌∷◌, ltb}
use Rattle.construction.specs.declared.answers.Answer.{Answer}
use Rattle.construction.specs.Requests.{is_idle}
use Rattle.calls.specs.Tables.{has_request, request_in}
use Rattle.block.specs.Layout.{process_count_in, limit_in, steps_in, control_in}
use Rattle.lent_card.specs.Requests.{call_block}
use Rattle.lent_steps.specs.Steps.{step_block, step_loan, answer_to}
use Rattle.lent_sweep.specs.declared.Counts.{Counts}

-- what is counted: accepted steps; of the operations that returned those done, those done as faults, those exited; the most own steps that one told
abbrev pub none : Counts
none = record { accepted = 0; done = 0; faulted = 0; exited = 0; longest = 0 }

-- a step that ran on
abbrev pub with_run : Counts → Counts
with_run c = record { accepted = c.accepted + 1; done = c.done; faulted = c.faulted; exited = c.exited; longest = c.longest }

-- a step whose operation was done, as a fault or not; and one whose operation exited
abbrev pub with_done : Counts → Bool → ℕ → Counts
with_done c true steps =
    record { accepted = c.accepted + 1; done = c.done; faulted = c.faulted + 1; exited = c.exited; longest = max c.longest steps }
with_done c false steps =
    record { accepted = c.accepted + 1; done = c.done + 1; faulted = c.faulted; exited = c.exited; longest = max c.longest steps }

abbrev pub with_exited : Counts → ℕ → Counts
with_exited c steps =
    record { accepted = c.accepted + 1; done = c.done; faulted = c.faulted; exited = c.exited + 1; longest = max c.longest steps }

-- the counts with the answer to one step more
abbrev pub with_answer : Counts → Answer → Counts
with_answer c Answer.Taken = c
with_answer c Answer.Run = with_run c
with_answer c (Answer.Done number y steps) = with_done c y.fault steps
with_answer c (Answer.Exited steps) = with_exited c steps
with_answer c (Answer.Value x) = c
with_answer c (Answer.Refused why) = c
with_answer c (Answer.RefusedAt why line) = c

-- an answer that tells that an operation has returned
abbrev pub is_return : Answer → Bool
is_return Answer.Taken = false
is_return Answer.Run = false
is_return (Answer.Done number y steps) = true
is_return (Answer.Exited steps) = true
is_return (Answer.Value x) = false
is_return (Answer.Refused why) = false
is_return (Answer.RefusedAt why line) = false

-- the call of process i, made again at once where its operation has returned and its five words stand in the table
abbrev pub called_again : List ℕ → List ℕ → ℕ → List ℕ
called_again calls b i = call_block b i (request_in calls i).program (request_in calls i).inputs

abbrev pub is_again : List ℕ → ℕ → Answer → Bool
is_again calls i x = is_return x && has_request calls i

abbrev pub again : List ℕ → List ℕ → ℕ → Answer → List ℕ
again calls b i x = cond (is_again calls i x) (called_again calls b i) b

-- what two runs, one after the other, come to
abbrev pub sum_of : Counts → Counts → Counts
sum_of c d =
    record {
      accepted = c.accepted + d.accepted;
      done = c.done + d.done;
      faulted = c.faulted + d.faulted;
      exited = c.exited + d.exited;
      longest = max c.longest d.longest;
    }

-- block, loan and counts on the way
pub record Sweep : Type 0 where
  pub block : List ℕ
  pub loan : List ℕ
  pub counts : Counts

abbrev pub start : List ℕ → List ℕ → Sweep
start b l = record { block = b; loan = l; counts = none }

-- one step of the schedule
abbrev pub sweep_step : List ℕ → Sweep → ℕ → Sweep
sweep_step calls s i =
    let x = answer_to s.block s.loan i in
    record {
      block = again calls (step_block s.block s.loan i) i x;
      loan = step_loan s.block s.loan i;
      counts = with_answer s.counts x;
    }

unfoldable pub swept : List ℕ → Sweep → List ℕ → Sweep
swept calls s [] = s
swept calls s (i ∷ is) = swept calls (sweep_step calls s i) is

-- what a run gives: the counts r, the block and the loan at exit
pub record Sweeps (calls b l schedule : List ℕ) (r : Counts) (b' l' : List ℕ) : Type 0 where
  pub counts : r ≡ (swept calls (start b l) schedule).counts
  pub block : b' ≡ (swept calls (start b l) schedule).block
  pub loan : l' ≡ (swept calls (start b l) schedule).loan

-- the same of one step
pub record Turns (calls b l : List ℕ) (c : Counts) (i : ℕ) (r : Counts) (b' l' : List ℕ) : Type 0 where
  pub same : ◌≡◌ {A = Sweep} (record { block = b'; loan = l'; counts = r }) (sweep_step calls (record { block = b; loan = l; counts = c }) i)

-- none of refusals 5, 8 and 10: a step is accepted where the loan is long enough
abbrev pub is_accepted : List ℕ → ℕ → Bool
is_accepted b i = (ltb i (process_count_in b) && ltb i 8) && (not (is_idle (control_in b i).place) && ltb (steps_in b) (limit_in b))

-- counts that have room for one more
pub record Below (c : Counts) : Type 0 where
  pub accepted : c.accepted < 18446744073709551615
  pub returned : c.done + (c.faulted + c.exited) < 18446744073709551615
