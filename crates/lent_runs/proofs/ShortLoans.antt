-- 11 BY ITS NUMBER (document 02, order 10: 'A step with a loan too short is turned back with 11, after 10'): a step on block and loan is refused with 11, with
-- both as they were, exactly if 5, 8 and 10 leave it, as they leave the step by value, and the loan has fewer words than p × w items take. No other
-- request answers 11.
use Prim.Native.Nat.{ℕ, ◌<◌}
use mathlib.Core.Path.{◌≡◌, refl, sym, ◌∙◌, ap}
use mathlib.Core.Bool.{Bool, true, false, true≢false}
use mathlib.Core.List.{List}
use lib.Dec.{ltb}
use lib.ListN.{length}
use borrow.Author.Tests.{ltb-true, ltb-false, eqb-true}
use Rattle.construction.specs.declared.{answers.Answer.Answer}
use Rattle.construction.specs.declared.answers.Refusal.TheVariants.{ShortBuffer}
use Rattle.construction.specs.Answers.{number_of, refused_with, answer_fields, is_refused}
use Rattle.construction.specs.Requests.{step}
use Rattle.construction.specs.History.{Entry, Steps}
use Rattle.construction.proofs.Statements.AnswerFields.{answer_known}
use Rattle.block.specs.Cards.{card_of}
use Rattle.loan.specs.Loans.{loan_words}
use Rattle.lent_steps.specs.Steps.{step_block, step_loan, answer_to}
use Rattle.lent_steps.proofs.Judging.{judged_in}
use Rattle.lent_runs.specs.Runs.{reply_in, is_eleven}
use Rattle.lent_runs.proofs.Judged.{own_numbers, step_refuses, step_refused, step_short, step_taken, taken_numbers}
use Rattle.lent_runs.proofs.Requested.{call_numbers, exit_numbers, read_numbers, change_numbers}

-- 11 by the answer is 11 by its fields
pub eleven_number : (x : Answer) → is_eleven x ≡ true → answer_fields x ≡ refused_with 11
unfolding answer_fields
eleven_number (Answer.Refused r) e = ap refused_with (eqb-true (number_of r) 11 e)
eleven_number Answer.Taken e = absurd (true≢false (sym e))
eleven_number Answer.Run e = absurd (true≢false (sym e))
eleven_number (Answer.Done number y steps) e = absurd (true≢false (sym e))
eleven_number (Answer.Exited steps) e = absurd (true≢false (sym e))
eleven_number (Answer.Value x) e = absurd (true≢false (sym e))
eleven_number (Answer.RefusedAt r line) e = absurd (true≢false (sym e))

pub eleven_only : (x : Answer) → answer_fields x ≡ refused_with 11 → is_eleven x ≡ true
eleven_only x e = ap is_eleven (answer_known x (Answer.Refused ShortBuffer) (unfold answer_fields in e))

module _ (b l : List ℕ) (i : ℕ) where
  pub loan_too_short :
      is_refused (step (card_of b l) i).answer ≡ false → length l < loan_words b →
      (answer_fields (answer_to b l i) ≡ refused_with 11) × (step_block b l i ≡ b) × (step_loan b l i ≡ l)
  loan_too_short r p =
      let stays = step_short b l i (sym (step_refuses b i l) ∙ r) p in
      (eleven_number (answer_to b l i) (ap is_eleven stays.answer), stays.block, stays.loan)

  pub loan_too_short_only :
      answer_fields (answer_to b l i) ≡ refused_with 11 → (is_refused (step (card_of b l) i).answer ≡ false) × (length l < loan_words b)
  loan_too_short_only e = by (is_refused (judged_in b i)) refl (ltb (length l) (loan_words b)) refl
    where
      told : is_eleven (answer_to b l i) ≡ true
      told = eleven_only (answer_to b l i) e

      by :
          (t : Bool) → is_refused (judged_in b i) ≡ t → (u : Bool) → ltb (length l) (loan_words b) ≡ u →
          (is_refused (step (card_of b l) i).answer ≡ false) × (length l < loan_words b)
      by true r u q = absurd (true≢false (sym told ∙ (ap is_eleven (step_refused b l i r).answer ∙ own_numbers b i)))
      by false r true q = (step_refuses b i l ∙ r, ltb-true (length l) (loan_words b) q)
      by false r false q = absurd (true≢false (sym told ∙ taken_numbers b l i (step_taken b l i r (ltb-false (length l) (loan_words b) q))))

-- only a step answers 11
pub only_steps : (b l : List ℕ) (e : Entry) → ((i : ℕ) → Steps e i → ⊥) → answer_fields (reply_in b l e).answer ≡ refused_with 11 → ⊥
only_steps b l e none told = go e none (eleven_only (reply_in b l e).answer told)
  where
    go : (e : Entry) → ((i : ℕ) → Steps e i → ⊥) → is_eleven (reply_in b l e).answer ≡ true → ⊥
    go (Entry.Call i k inputs) n h = true≢false (sym h ∙ call_numbers b i k)
    go (Entry.Exit i) n h = true≢false (sym h ∙ exit_numbers b i)
    go (Entry.Step i) n h = n i Steps.by_step
    go (Entry.Trace i) n h = n i Steps.by_trace
    go (Entry.Read v) n h = true≢false (sym h ∙ read_numbers b v)
    go (Entry.Change k from t) n h = true≢false (sym h ∙ change_numbers b k from t)
