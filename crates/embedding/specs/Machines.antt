-- What each request to machines that share a processor (document 02, order 14) leaves of all that its caller lends: the status r, and what the words w of the
-- allowance, the blocks bs, the loans ls, the array o for numbers and the array u for a report hold then (x, cs, ms, z, v). The answers are those of the crate
-- shared_processor, with the allowance that stands in the words (crate allowance_words).
use Rattle.std.specs.Prelude.{ℕ, ◌*◌, Bool, cond, ◌||◌, List, [], ◌≡◌, ltb, length}
use Rattle.construction.specs.declared.answers.Answer.{Answer}
use Rattle.construction.specs.declared.answers.Report.{Report}
use Rattle.construction.specs.declared.answers.Refusal.TheVariants.{ShortBuffer}
use Rattle.construction.specs.Answers.{number_of}
use Rattle.construction.specs.History.{Entry}
use Rattle.allowance.specs.Allowing.{turn}
use Rattle.allowance.specs.Opening.{allowance_from, open_answer}
use Rattle.allowance_words.specs.Words.{allowance_in, with_allowance, terms_in}
use Rattle.shared_processor.specs.Opening.{card_verdict, with_card}
use Rattle.shared_processor.specs.Requests.{reply_to, allowance_after, blocks_after, loans_after}
use Rattle.embedding.specs.Numbers.{told, status_of, numbers_of, verdict_status, verdict_numbers, report_numbers}

-- open: 11 where the words of the allowance, or of the terms t (share and ceiling of each machine), are too few, and all stays as it was; then 18 of terms that
-- are not accepted, which leaves no machines
abbrev pub are_too_few : List ℕ → ℕ → List ℕ → Bool
are_too_few w count t = ltb (length w) 14 || ltb (length t) (2 * count)

pub record OpensMachines (w : List ℕ) (count steps : ℕ) (t : List ℕ) (r : ℕ) (x : List ℕ) : Type 0 where
  pub status : r ≡ cond (are_too_few w count t) (number_of ShortBuffer) (status_of (open_answer count steps (terms_in t)))
  pub allowance : x ≡ cond (are_too_few w count t) w (with_allowance w (allowance_from count steps (terms_in t)))

-- a new turn
pub record Turns (w x : List ℕ) : Type 0 where
  pub allowance : x ≡ with_allowance w (turn (allowance_in w))

-- a card text t into the block of machine m: as of one card
pub record OpensCard (bs : List ℕ) (m : ℕ) (t o : List ℕ) (r : ℕ) (cs z : List ℕ) : Type 0 where
  pub status : r ≡ verdict_status (card_verdict t bs m)
  pub blocks : cs ≡ with_card t bs m
  pub out : z ≡ told o (verdict_numbers (card_verdict t bs m))

-- the answer to the request e of machine m, and what is told of its step
abbrev pub answer_for : List ℕ → ℕ → List ℕ → List ℕ → ℕ → Entry → Answer
answer_for w stride bs ls m e = (reply_to (allowance_in w) stride bs ls m e).answer

abbrev pub report_for : List ℕ → ℕ → List ℕ → List ℕ → ℕ → Entry → Report
report_for w stride bs ls m e = (reply_to (allowance_in w) stride bs ls m e).report

-- call and exit request: they look at no loan, and leave the allowance
pub record Asks (w bs : List ℕ) (m : ℕ) (e : Entry) (r : ℕ) (cs : List ℕ) : Type 0 where
  pub status : r ≡ status_of (answer_for w 0 bs [] m e)
  pub allowance : allowance_in w ≡ allowance_after (allowance_in w) 0 bs [] m e
  pub blocks : cs ≡ blocks_after (allowance_in w) 0 bs [] m e

-- read and change: the same with numbers that are told
pub record AsksTelling (w bs : List ℕ) (m : ℕ) (e : Entry) (o : List ℕ) (r : ℕ) (cs z : List ℕ) : Type 0 where
  pub asks : Asks w bs m e r cs
  pub out : z ≡ told o (numbers_of (answer_for w 0 bs [] m e))

-- step
pub record StepsMachine (w : List ℕ) (stride : ℕ) (bs ls : List ℕ) (m : ℕ) (e : Entry) (o : List ℕ) (r : ℕ) (x cs ms z : List ℕ) : Type 0 where
  pub status : r ≡ status_of (answer_for w stride bs ls m e)
  pub allowance : x ≡ with_allowance w (allowance_after (allowance_in w) stride bs ls m e)
  pub blocks : cs ≡ blocks_after (allowance_in w) stride bs ls m e
  pub loans : ms ≡ loans_after (allowance_in w) stride bs ls m e
  pub out : z ≡ told o (numbers_of (answer_for w stride bs ls m e))

-- trace: that step, and its report
pub record TracesMachine (w : List ℕ) (stride : ℕ) (bs ls : List ℕ) (m : ℕ) (e : Entry) (o u : List ℕ) (r : ℕ) (x cs ms z v : List ℕ) : Type 0 where
  pub step : StepsMachine w stride bs ls m e o r x cs ms z
  pub report : v ≡ told u (report_numbers (report_for w stride bs ls m e))
