-- What each request leaves of all that its caller lends: the status r, and what the block b, the loan l, the array o for numbers and, of `trace`, the array u
-- for its report hold then (c, m, z, v). The answer, the block and the loan are those of the request on lent words (crates lent_text, lent_card, lent_steps).
use Rattle.std.specs.Prelude.{ℕ, Bool, cond, List, [], ◌≡◌, ltb, length}
use Rattle.construction.specs.declared.answers.Refusal.TheVariants.{ShortBuffer}
use Rattle.construction.specs.Answers.{number_of}
use Rattle.construction.specs.Opening.{read_card}
use Rattle.construction.specs.Writing.{written, written_into}
use Rattle.codes.specs.Types.{Words}
use Rattle.block.specs.Cards.{card_of}
use Rattle.lent_text.specs.Opened.{opened_block, judged}
use Rattle.lent_card.specs.Requests.{call_answer, call_block, exit_answer, exit_block, read_answer, change_answer, change_block}
use Rattle.loan.specs.Loans.{loan_words}
use Rattle.lent_steps.specs.Steps.{answer_to, step_block, step_loan, report_to}
use Rattle.lent_sweep.specs.Sweeps.{Sweep, start, swept}
use Rattle.embedding.specs.Numbers.{told, status_of, numbers_of, verdict_status, verdict_numbers, written_status, written_numbers, report_numbers, count_numbers}

-- open: refusals 1, 2, 3, 4, 12, 13 and 14 of the text t, then 11 for a block that is too short
pub record Opens (t b o : List ℕ) (r : ℕ) (c z : List ℕ) : Type 0 where
  pub status : r ≡ verdict_status (judged (read_card t).verdict b)
  pub block : c ≡ opened_block t b
  pub out : z ≡ told o (verdict_numbers (judged (read_card t).verdict b))

-- call: refusals 5, 6, 7
pub record Calls (b : List ℕ) (i k : ℕ) (x : Words) (r : ℕ) (c : List ℕ) : Type 0 where
  pub status : r ≡ status_of (call_answer b i k)
  pub block : c ≡ call_block b i k x

-- exit request: refusals 5, 8
pub record Exits (b : List ℕ) (i r : ℕ) (c : List ℕ) : Type 0 where
  pub status : r ≡ status_of (exit_answer b i)
  pub block : c ≡ exit_block b i

-- step: refusals 5, 8, 10, 11
pub record Steps (b l : List ℕ) (i : ℕ) (o : List ℕ) (r : ℕ) (c m z : List ℕ) : Type 0 where
  pub status : r ≡ status_of (answer_to b l i)
  pub block : c ≡ step_block b l i
  pub loan : m ≡ step_loan b l i
  pub out : z ≡ told o (numbers_of (answer_to b l i))

-- trace: that step, and its report
pub record Traces (b l : List ℕ) (i : ℕ) (o u : List ℕ) (r : ℕ) (c m z v : List ℕ) : Type 0 where
  pub step : Steps b l i o r c m z
  pub report : v ≡ told u (report_numbers (report_to b l i))

-- read: refusal 9
pub record Reads (b : List ℕ) (v : ℕ) (o : List ℕ) (r : ℕ) (z : List ℕ) : Type 0 where
  pub status : r ≡ status_of (read_answer b v)
  pub out : z ≡ told o (numbers_of (read_answer b v))

-- change: refusals 6; 1, 2, 3, 4, 12, 13 and 14 of the text t; 15, 16
pub record Changes (b : List ℕ) (k from : ℕ) (t o : List ℕ) (r : ℕ) (c z : List ℕ) : Type 0 where
  pub status : r ≡ status_of (change_answer b k from t)
  pub block : c ≡ change_block b k from t
  pub out : z ≡ told o (numbers_of (change_answer b k from t))

-- write: refusal 11; the bytes t of the buffer become x
pub record Writes (b t o : List ℕ) (r : ℕ) (x z : List ℕ) : Type 0 where
  pub status : r ≡ written_status (written (card_of b []) t)
  pub text : x ≡ written_into (card_of b []) t
  pub out : z ≡ told o (written_numbers (written (card_of b []) t))

-- run (order 12): the steps of the schedule s, with the table k of calls, each made again at once; refusal 11 of a loan that is too short, with which
-- no step is accepted
abbrev pub is_short : List ℕ → List ℕ → Bool
is_short b l = ltb (length l) (loan_words b)

abbrev pub run_of : List ℕ → List ℕ → List ℕ → List ℕ → Sweep
run_of b l k s = swept k (start b l) s

pub record Runs (b l k s o : List ℕ) (r : ℕ) (c m z : List ℕ) : Type 0 where
  pub status : r ≡ cond (is_short b l) (number_of ShortBuffer) 0
  pub block : c ≡ (run_of b l k s).block
  pub loan : m ≡ (run_of b l k s).loan
  pub out : z ≡ cond (is_short b l) o (told o (count_numbers (run_of b l k s).counts))
