-- A step on block and loan by what judges it: 5, 8 and 10 by the block alone, as on the card by value; then 11 by the length of the loan.
use Prim.Native.Nat.{ℕ, ◌<◌, ◌≤◌}
use mathlib.Core.Path.{◌≡◌, refl, sym, ◌∙◌, ap}
use mathlib.Core.Bool.{Bool, true, false, cond, not, ◌&&◌}
use mathlib.Core.List.{List}
use lib.Dec.{ltb}
use lib.ListN.{length}
use borrow.Author.Tests.{lt-ltb, le-ltb}
use Rattle.construction.specs.declared.{answers.Answer.Answer, answers.Answered.Answered, cells.Announcement.Announcement, cells.Flag.Flag}
use Rattle.construction.specs.declared.answers.Refusal.TheVariants.{NoProcess, NotBusy, LimitReached, ShortBuffer}
use Rattle.construction.specs.declared.cells.Flag.TheVariants.{Done, Active, Exit}
use Rattle.construction.specs.Parts.{local_at}
use Rattle.construction.specs.Machine.{advance}
use Rattle.construction.specs.Answers.{is_refused}
use Rattle.construction.specs.Requests.{is_idle, refused, returned, answer_of, step_answer, step}
use Rattle.construction.specs.Tracing.{no_report}
use Rattle.requests.specs.Judging.{judged}
use Rattle.codes.specs.Types.{Card, Label}
use Rattle.block.specs.Layout.{process_count_in, limit_in, steps_in, control_in, count_in, last_in}
use Rattle.block.specs.Cards.{card_of}
use Rattle.block.proofs.Gets.{process_count_is, limit_is, steps_is, control_is}
use Rattle.loan.specs.Loans.{loan_words}
use Rattle.lent_steps.specs.Steps.{step_verdict, step_block, step_loan, answer_in, advanced, answer_to, report_to}
use Rattle.lent_steps.proofs.Judging.{judged_in}
use Rattle.lent_runs.specs.Runs.{is_eleven}

-- an answer to an accepted step refuses nothing
accepts : (a : Announcement) (f : Flag) (k : ℕ) → (is_refused (returned a f k) ≡ false) × (is_eleven (returned a f k) ≡ false)
accepts a Done k = (refl, refl)
accepts a Active k = (refl, refl)
accepts a Exit k = (refl, refl)

pub answer_accepts : (place : Label) (a : Announcement) (k : ℕ) → (is_refused (step_answer place a k) ≡ false) × (is_eleven (step_answer place a k) ≡ false)
answer_accepts place a k = go (is_idle place)
  where
    go : (t : Bool) → (is_refused (cond t (returned a a.flag k) Answer.Run) ≡ false) × (is_eleven (cond t (returned a a.flag k) Answer.Run) ≡ false)
    go true = accepts a a.flag k
    go false = (refl, refl)

-- three tests give none of the other refusals
judged_numbers : (p q r : Bool) → is_eleven (judged p NoProcess q NotBusy r LimitReached) ≡ false
judged_numbers false q r = refl
judged_numbers true false r = refl
judged_numbers true true false = refl
judged_numbers true true true = refl

-- .. and are those of the step by value
tested :
    (c d : Card) (x : Answer) (p q r : Bool) →
    cond (not p) (refused c NoProcess) (cond (not q) (refused c NotBusy) (cond (not r) (refused c LimitReached) (record { card = d; answer = x })))
    ≡ cond (is_refused (judged p NoProcess q NotBusy r LimitReached)) (record { card = c; answer = judged p NoProcess q NotBusy r LimitReached })
    (record { card = d; answer = x })
tested c d x false q r = refl
tested c d x true false r = refl
tested c d x true true false = refl
tested c d x true true true = refl

module _ (b : List ℕ) (i : ℕ) where
  pub own_numbers : is_eleven (judged_in b i) ≡ false
  own_numbers = judged_numbers (ltb i (process_count_in b) && ltb i 8) (not (is_idle (control_in b i).place)) (ltb (steps_in b) (limit_in b))

  -- the step by value, with any loan
  pub step_judged_lem :
      (l : List ℕ) →
      step (card_of b l) i
      ≡ cond (is_refused (judged_in b i)) (record { card = card_of b l; answer = judged_in b i })
      (record { card = advance (card_of b l) i; answer = answer_of (local_at (advance (card_of b l) i) i) })
  unfolding step
  step_judged_lem l =
      let c = card_of b l in
      let processes = process_count_is b l in
      let control = control_is b l i in
      let steps = steps_is b l in
      let limit = limit_is b l in
      sym (λ j. cond (not (ltb i (processes j) && ltb i 8)) (refused c NoProcess)
      (cond (not (not (is_idle (control j).place))) (refused c NotBusy)
      (cond (not (ltb (steps j) (limit j))) (refused c LimitReached) (record { card = advance c i; answer = answer_of (local_at (advance c i) i) }))))
      ∙ tested c (advance c i) (answer_of (local_at (advance c i) i)) (ltb i (process_count_in b) && ltb i 8) (not (is_idle (control_in b i).place))
      (ltb (steps_in b) (limit_in b))

  pub step_refuses : (l : List ℕ) → is_refused (step (card_of b l) i).answer ≡ is_refused (judged_in b i)
  step_refuses l = ap (λ (x : Answered). is_refused x.answer) (step_judged_lem l) ∙ go (is_refused (judged_in b i)) refl
    where
      go :
          (t : Bool) → is_refused (judged_in b i) ≡ t →
          is_refused
          (cond {A = Answered} t (record { card = card_of b l; answer = judged_in b i })
          (record { card = advance (card_of b l) i; answer = answer_of (local_at (advance (card_of b l) i) i) })).answer
          ≡ t
      go true e = e
      go false e = let x = local_at (advance (card_of b l) i) i in (answer_accepts x.control.place x.announcement x.steps).0

-- what is left of a step that is refused
pub record Stays (b l : List ℕ) (i : ℕ) (x : Answer) : Type 0 where
  pub verdict : step_verdict b l i ≡ x
  pub answer : answer_to b l i ≡ x
  pub block : step_block b l i ≡ b
  pub loan : step_loan b l i ≡ l
  pub report : report_to b l i ≡ no_report

module _ (b l : List ℕ) (i : ℕ) where
  pub stays : (x : Answer) → step_verdict b l i ≡ x → is_refused x ≡ true → Stays b l i x
  unfolding answer_to step_block step_loan report_to
  stays x e r =
      let z : is_refused (step_verdict b l i) ≡ true = ap is_refused e ∙ r in
      record { verdict = e; answer = rw z e; block = rw z; loan = rw z; report = rw z }

  -- 5, 8 and 10, whatever the loan
  pub step_refused : is_refused (judged_in b i) ≡ true → Stays b l i (judged_in b i)
  unfolding step_verdict
  step_refused r = stays (judged_in b i) (rw r) r

  -- then 11
  pub step_short : is_refused (judged_in b i) ≡ false → length l < loan_words b → Stays b l i (Answer.Refused ShortBuffer)
  unfolding step_verdict
  step_short r p = stays (Answer.Refused ShortBuffer) (rw (r, lt-ltb (length l) (loan_words b) p)) refl

  -- every other step is accepted
  pub step_taken : is_refused (judged_in b i) ≡ false → loan_words b ≤ length l → step_verdict b l i ≡ Answer.Taken
  unfolding step_verdict
  step_taken r p = rw (r, le-ltb (length l) (loan_words b) p)

  pub taken_answer : step_verdict b l i ≡ Answer.Taken → answer_to b l i ≡ answer_in (advanced b l i) i
  unfolding answer_to
  taken_answer e = rw e

  pub taken_numbers : step_verdict b l i ≡ Answer.Taken → is_eleven (answer_to b l i) ≡ false
  taken_numbers e =
      let d = advanced b l i in
      ap is_eleven (taken_answer e) ∙ (answer_accepts (control_in d i).place (last_in d i) (count_in d i)).1
