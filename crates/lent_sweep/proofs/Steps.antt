-- One step of a schedule, by what code finds in the block: a step that is refused changes nothing, an accepted one is counted and followed by its call; and what
-- the run needs of block, loan and counts is kept.
use Prim.Native.Nat.{ℕ, ◌+◌, ◌<◌, ◌≤◌}
use mathlib.Core.Path.{◌≡◌, refl, sym, ◌∙◌, ap}
use mathlib.Core.Bool.{Bool, true, false, cond, not, ◌&&◌, true≢false}
use mathlib.Core.List.{List}
use native.Mathlib.Omega.{arith}
use lib.Dec.{ltb}
use lib.ListN.{length}
use Rattle.construction.specs.declared.{answers.Answer.Answer, answers.Refusal.Refusal}
use Rattle.construction.specs.declared.answers.Refusal.TheVariants.{NoProcess, NotBusy, LimitReached, ShortBuffer}
use Rattle.construction.specs.Answers.{is_refused}
use Rattle.construction.specs.Requests.{is_idle}
use Rattle.construction.specs.History.{Entry}
use Rattle.requests.specs.Judging.{judged}
use Rattle.calls.specs.Tables.{request_in}
use Rattle.codes.specs.Types.{Control}
use Rattle.block.specs.Layout.{process_count_in, limit_in, steps_in, control_in}
use Rattle.loan.specs.Loans.{loan_words}
use Rattle.lent_helping.specs.Steps.{access_loan}
use Rattle.lent_steps.specs.Steps.{step_verdict, access_at, advanced, step_block, step_loan, answer_in, answer_to}
use Rattle.lent_steps.proofs.Judging.{judged_in}
use Rattle.lent_runs.proofs.Judged.{Stays, step_refused, step_short, step_taken, taken_answer}
use Rattle.lent_runs.proofs.Untouched.{untouched}
use Rattle.lent_runs.proofs.Handing.{words_kept}
use Rattle.lent_sweep.specs.declared.Counts.{Counts}
use Rattle.lent_sweep.specs.Sweeps.{with_done, with_answer, is_again, called_again, again, Sweep, sweep_step, Turns, is_accepted}

-- what code tests is what refusals 5, 8 and 10 leave
tests : (t₁ t₂ t₃ : Bool) (r₁ r₂ r₃ : Refusal) → is_refused (judged t₁ r₁ t₂ r₂ t₃ r₃) ≡ not (t₁ && (t₂ && t₃))
tests true true true r₁ r₂ r₃ = refl
tests true true false r₁ r₂ r₃ = refl
tests true false t₃ r₁ r₂ r₃ = refl
tests false t₂ t₃ r₁ r₂ r₃ = refl

judged_is : (b : List ℕ) (i : ℕ) → is_refused (judged_in b i) ≡ not (is_accepted b i)
judged_is b i = tests (ltb i (process_count_in b) && ltb i 8) (not (is_idle (control_in b i).place)) (ltb (steps_in b) (limit_in b)) NoProcess NotBusy LimitReached

-- .. one after the other
module _ (b : List ℕ) (i : ℕ) where
  pub no_process : {p : ℕ} {t : Bool} → p ≡ process_count_in b → t ≡ (ltb i p && ltb i 8) → t ≡ false → false ≡ is_accepted b i
  no_process ep et e = sym (rw (← ep, ← et, e) refl)

  pub idle_process : {p : ℕ} {t idle : Bool} {k : Control} → p ≡ process_count_in b → t ≡ (ltb i p && ltb i 8) → t ≡ true → k ≡ control_in b i →
      idle ≡ is_idle k.place → idle ≡ true → false ≡ is_accepted b i
  idle_process ep et e ek ei h = sym (rw (← ep, ← et, e, ← ek, ← ei, h) refl)

  pub within_limit :
      {p s m : ℕ} {t idle : Bool} {k : Control} → p ≡ process_count_in b → t ≡ (ltb i p && ltb i 8) → t ≡ true → k ≡ control_in b i → idle ≡ is_idle k.place →
      idle ≡ false →
      s ≡ steps_in b → m ≡ limit_in b → ltb s m ≡ is_accepted b i
  within_limit ep et e ek ei h es em = sym (rw (← ep, ← et, e, ← ek, ← ei, h, ← es, ← em) refl)

-- a refusal is no return, and is not counted
refused_again : (calls : List ℕ) (b : List ℕ) (i : ℕ) (x : Answer) → is_refused x ≡ true → again calls b i x ≡ b
refused_again calls b i Answer.Taken e = refl
refused_again calls b i Answer.Run e = refl
refused_again calls b i (Answer.Done number y steps) e = absurd (true≢false (sym e))
refused_again calls b i (Answer.Exited steps) e = absurd (true≢false (sym e))
refused_again calls b i (Answer.Value x) e = refl
refused_again calls b i (Answer.Refused why) e = refl
refused_again calls b i (Answer.RefusedAt why line) e = refl

refused_uncounted : (c : Counts) (x : Answer) → is_refused x ≡ true → with_answer c x ≡ c
refused_uncounted c Answer.Taken e = refl
refused_uncounted c Answer.Run e = absurd (true≢false (sym e))
refused_uncounted c (Answer.Done number y steps) e = absurd (true≢false (sym e))
refused_uncounted c (Answer.Exited steps) e = absurd (true≢false (sym e))
refused_uncounted c (Answer.Value x) e = refl
refused_uncounted c (Answer.Refused why) e = refl
refused_uncounted c (Answer.RefusedAt why line) e = refl

-- block and loan after an accepted step
module _ (b l : List ℕ) (i : ℕ) (taken : step_verdict b l i ≡ Answer.Taken) where
  stepped_block : step_block b l i ≡ advanced b l i
  unfolding step_block
  stepped_block = rw taken

  stepped_loan : step_loan b l i ≡ access_loan (access_at b i) b l i
  unfolding step_loan
  stepped_loan = rw taken

module _ (calls : List ℕ) (b l : List ℕ) (c : Counts) (i : ℕ) where
  abbrev here : Sweep
  here = record { block = b; loan = l; counts = c }

  unmoved : (x : Answer) → is_refused x ≡ true → Stays b l i x → sweep_step calls here i ≡ here
  unmoved x r s =
      let answer = s.answer in
      let block : again calls (step_block b l i) i (answer_to b l i) ≡ b = rw (answer, s.block) (refused_again calls b i x r) in
      let counts : with_answer c (answer_to b l i) ≡ c = rw answer (refused_uncounted c x r) in
      let loan = s.loan in
      λ j. record { block = block j; loan = loan j; counts = counts j }

  -- refusals 5, 8 and 10, with any loan
  pub step_unmoved : is_accepted b i ≡ false → sweep_step calls here i ≡ here
  step_unmoved e =
      let r : is_refused (judged_in b i) ≡ true = judged_is b i ∙ ap not e in
      unmoved (judged_in b i) r (step_refused b l i r)

  -- a loan too short
  pub short_unmoved : length l < loan_words b → sweep_step calls here i ≡ here
  short_unmoved h = go (is_refused (judged_in b i)) refl
    where
      go : (t : Bool) → is_refused (judged_in b i) ≡ t → sweep_step calls here i ≡ here
      go true r = unmoved (judged_in b i) r (step_refused b l i r)
      go false r = unmoved (Answer.Refused ShortBuffer) refl (step_short b l i r h)

  pub turn_refused : is_accepted b i ≡ false → Turns calls b l c i c b l
  turn_refused e = record { same = sym (step_unmoved e) }

  -- an accepted step
  pub turn_accepted :
      {d m e : List ℕ} {x : Answer} {r : Counts} → is_accepted b i ≡ true → loan_words b ≤ length l → d ≡ advanced b l i → m ≡ access_loan (access_at b i) b l i →
      x ≡ answer_in d i → e ≡ again calls d i x → r ≡ with_answer c x → Turns calls b l c i r e m
  turn_accepted {d} {m} {e} {x} {r} a lent ed em ex ee er =
      let taken = step_taken b l i (judged_is b i ∙ ap not a) lent in
      let answer : answer_to b l i ≡ x = taken_answer b l i taken ∙ sym (rw ed at ex) in
      let block = stepped_block b l i taken in
      let loan = stepped_loan b l i taken in
      let z : again calls (step_block b l i) i (answer_to b l i) ≡ e = rw (answer, block, ← ed) (sym ee) in
      let n : with_answer c (answer_to b l i) ≡ r = rw answer (sym er) in
      let k : step_loan b l i ≡ m = loan ∙ sym em in
      record { same = sym (λ j. record { block = z j; loan = k j; counts = n j }) }

  -- what is kept: the loan is long enough, and the lengths
  call_words : (d : List ℕ) (x : Answer) → (loan_words (again calls d i x) ≡ loan_words d) × (length (again calls d i x) ≡ length d)
  call_words d x = go (is_again calls i x)
    where
      go : (t : Bool) → (loan_words (cond t (called_again calls d i) d) ≡ loan_words d) × (length (cond t (called_again calls d i) d) ≡ length d)
      go true =
          let u = (untouched d l (Entry.Call i (request_in calls i).program (request_in calls i).inputs)).block in
          (words_kept u, u.size)
      go false = (refl, refl)

  pub step_sizes :
      (loan_words (sweep_step calls here i).block ≡ loan_words b)
      × (length (sweep_step calls here i).block ≡ length b)
      × (length (sweep_step calls here i).loan ≡ length l)
  step_sizes =
      let u = untouched b l (Entry.Step i) in
      let k = call_words (step_block b l i) (answer_to b l i) in
      (k.0 ∙ words_kept u.block, k.1 ∙ u.block.size, u.size)

-- counts of at most n steps
pub record Tallied (n : ℕ) (c : Counts) : Type 0 where
  pub accepted : c.accepted ≤ n
  pub returned : c.done + (c.faulted + c.exited) ≤ c.accepted

tallied_done : {n : ℕ} {c : Counts} (fault : Bool) (steps : ℕ) → Tallied n c → Tallied (n + 1) (with_done c fault steps)
tallied_done true steps h = record { accepted = omega (arith, h.accepted); returned = omega (arith, h.returned) }
tallied_done false steps h = record { accepted = omega (arith, h.accepted); returned = omega (arith, h.returned) }

pub tallied_more : {n : ℕ} {c : Counts} (x : Answer) → Tallied n c → Tallied (n + 1) (with_answer c x)
tallied_more Answer.Taken h = record { accepted = omega (arith, h.accepted); returned = h.returned }
tallied_more Answer.Run h = record { accepted = omega (arith, h.accepted); returned = omega (arith, h.returned) }
tallied_more (Answer.Done number y steps) h = tallied_done y.fault steps h
tallied_more (Answer.Exited steps) h = record { accepted = omega (arith, h.accepted); returned = omega (arith, h.returned) }
tallied_more (Answer.Value x) h = record { accepted = omega (arith, h.accepted); returned = h.returned }
tallied_more (Answer.Refused why) h = record { accepted = omega (arith, h.accepted); returned = h.returned }
tallied_more (Answer.RefusedAt why line) h = record { accepted = omega (arith, h.accepted); returned = h.returned }
