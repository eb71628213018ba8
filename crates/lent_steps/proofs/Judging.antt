-- A step by what code takes out of the block: a number that does not fit a byte is that of no process, and a step that is accepted has a small one.
use Prim.Native.Nat.{ℕ, min, ◌≤◌, ◌<◌}
use mathlib.Core.Path.{◌≡◌, refl, sym, ◌∙◌, ap}
use mathlib.Core.Bool.{Bool, true, false, not, ◌&&◌, true≢false}
use mathlib.Core.List.{List}
use native.Mathlib.Omega.{arith}
use lib.Dec.{ltb}
use lib.ListN.{length}
use borrow.Author.Tests.{lt-ltb, le-ltb}
use Rattle.construction.specs.declared.{answers.Refusal.Refusal, answers.Answer.Answer}
use Rattle.construction.specs.declared.answers.Refusal.TheVariants.{ShortBuffer}
use Rattle.construction.specs.Answers.{is_refused}
use Rattle.construction.specs.Requests.{is_idle}
use Rattle.requests.specs.Judging.{judged, step_judged}
use Rattle.requests.proofs.Arrays.{in_room}
use Rattle.codes.specs.Types.{Control}
use Rattle.block.specs.Layout.{process_count_in, limit_in, steps_in, control_in}
use Rattle.loan.specs.Loans.{loan_words}
use Rattle.lent_helping.specs.Steps.{access_loan}
use Rattle.lent_card.proofs.Judging.{control_narrow}
use Rattle.lent_steps.specs.Steps.{lent_judged, step_verdict, access_at, advanced, step_block, step_loan, answer_in, answer_to}

-- refusals 5, 8 and 10 on what stands in a block
abbrev pub judged_in : List ℕ → ℕ → Answer
judged_in b i = step_judged i (process_count_in b) (control_in b i).place (steps_in b) (limit_in b)

-- what code judges
module _ (b : List ℕ) (i : ℕ) where
  pub judged_by :
      {n : ℕ} {t : Control} {p s m : ℕ} {x : Answer} → n ≡ min i 255 → t ≡ control_in b n → p ≡ process_count_in b → s ≡ steps_in b → m ≡ limit_in b →
      x ≡ step_judged i p t.place s m → x ≡ judged_in b i
  judged_by en et ep es em ex = rw (ep, es, em, et, en, control_narrow b i) at ex

-- the verdict, by whether refusals 5, 8 and 10 leave the step and by the loan
module _ (b l : List ℕ) (i : ℕ) where
  pub verdict_refused : {x : Answer} → x ≡ judged_in b i → is_refused x ≡ true → x ≡ step_verdict b l i
  unfolding step_verdict
  verdict_refused {x} e r = rw (← e, r)

  pub verdict_short :
      {x : Answer} {words : ℕ} → x ≡ judged_in b i → is_refused x ≡ false → words ≡ loan_words b → length l < words →
      Answer.Refused ShortBuffer ≡ step_verdict b l i
  unfolding step_verdict
  verdict_short e r ew h = let s : ltb (length l) (loan_words b) ≡ true = lt-ltb (length l) (loan_words b) (rw ew at h) in rw (← e, r, s)

  pub verdict_taken :
      {x : Answer} {words : ℕ} → x ≡ judged_in b i → is_refused x ≡ false → words ≡ loan_words b → words ≤ length l → Answer.Taken ≡ step_verdict b l i
  unfolding step_verdict
  verdict_taken e r ew h = let s : ltb (length l) (loan_words b) ≡ false = le-ltb (length l) (loan_words b) (rw ew at h) in rw (← e, r, s)

  -- an accepted step is one of a process of the card
  accepted_below :
      (t₁ t₂ t₃ short : Bool) (r₁ r₂ r₃ : Refusal) → is_refused (lent_judged (judged t₁ r₁ t₂ r₂ t₃ r₃) short) ≡ false → t₁ ≡ true
  accepted_below true t₂ t₃ short r₁ r₂ r₃ e = refl
  accepted_below false t₂ t₃ short r₁ r₂ r₃ e = absurd (true≢false e)

  pub accepted_process : is_refused (step_verdict b l i) ≡ false → ltb i (process_count_in b) && ltb i 8 ≡ true
  unfolding step_verdict
  accepted_process e =
      accepted_below (ltb i (process_count_in b) && ltb i 8) (not (is_idle (control_in b i).place)) (ltb (steps_in b) (limit_in b)) (ltb (length l) (loan_words b)) _
      _ _ e

  pub accepted_small : is_refused (step_verdict b l i) ≡ false → i < 8
  accepted_small e = in_room i (process_count_in b) 8 (accepted_process e)

  -- what code leaves of a refused step, and of an accepted one
  pub step_refused :
      {x : Answer} → x ≡ step_verdict b l i → is_refused x ≡ true → (x ≡ answer_to b l i) × (b ≡ step_block b l i) × (l ≡ step_loan b l i)
  unfolding answer_to step_block step_loan
  step_refused e r = let q : is_refused (step_verdict b l i) ≡ true = sym (ap is_refused e) ∙ r in (rw q e, rw q, rw q)

  pub step_taken :
      {x y : Answer} {n : ℕ} {c m : List ℕ} → x ≡ step_verdict b l i → is_refused x ≡ false → n ≡ min i 255 → c ≡ advanced b l n →
      m ≡ access_loan (access_at b n) b l n → y ≡ answer_in c n → (y ≡ answer_to b l i) × (c ≡ step_block b l i) × (m ≡ step_loan b l i)
  unfolding answer_to step_block step_loan
  step_taken {x} {y} {n} {c} {m} e r en ec em ey =
      let q : is_refused (step_verdict b l i) ≡ false = sym (ap is_refused e) ∙ r in
      let p = accepted_small q in
      let z : n ≡ i = omega (arith, en) in
      (rw q (rw (ec, z) at ey), rw q (rw z at ec), rw q (rw z at em))
