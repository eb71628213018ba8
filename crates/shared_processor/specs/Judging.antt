-- A step judged before anything is written: the machine's number, what the card itself refuses, and last the allowance (document 02, order 14).
use Rattle.std.specs.Prelude.{ℕ, cond, List, ltb}
use Rattle.std.specs.Prelude.{Result, Ok, Err}
use Rattle.construction.specs.declared.{answers.Answer.Answer, answers.Refusal.Refusal}
use Rattle.construction.specs.declared.answers.Refusal.TheVariants as refusals
use Rattle.construction.specs.Answers.{is_refused}
use Rattle.lent_steps.specs.Steps.{step_verdict}
use Rattle.allowance.specs.declared.Allowance.{Allowance}
use Rattle.allowance.specs.Allowing.{has_allowance, spend}
use Rattle.shared_processor.specs.declared.stepping.Stepped.{Stepped}
use Rattle.shared_processor.specs.Parts.{part}

-- code judges a step with a Result: the allowance and the answer that it stands for, by the allowance before the step
abbrev pub stepped_of : Allowance → Result Allowance Refusal → Stepped
stepped_of a (Ok after) = record { allowance = after; answer = Answer.Taken }
stepped_of a (Err why) = record { allowance = a; answer = Answer.Refused why }

-- the allowance after it and its refusal, or `taken` for one that goes on
abbrev pub judged_with : Allowance → ℕ → Answer → Stepped
judged_with a m verdict =
    cond (ltb m a.count)
    (cond (is_refused verdict) (record { allowance = a; answer = verdict })
    (cond (has_allowance a m) (record { allowance = spend a m; answer = Answer.Taken })
    (record { allowance = a; answer = Answer.Refused refusals.NoAllowance })))
    (record { allowance = a; answer = Answer.Refused refusals.NoProcess })

unfoldable pub step_judged : Allowance → ℕ → List ℕ → List ℕ → ℕ → ℕ → Stepped
step_judged a stride blocks loans m i = judged_with a m (step_verdict (part 1456 blocks m) (part stride loans m) i)
