-- What is accepted at opening (document 02, order 14); all else is refused with 18
use Rattle.std.specs.Prelude.{Result, Ok, Err, ℕ, zero, suc, ◌+◌, ◌<◌, ◌≤◌, Bool, true, cond, ◌&&◌, List, [], ◌∷◌, get_or, take, leb}
use Rattle.construction.specs.declared.{answers.Answer.Answer, answers.Refusal.Refusal}
use Rattle.construction.specs.declared.answers.Refusal.TheVariants.{BadTerms}
use Rattle.allowance.specs.Types.{Quota, Allowance}
use Rattle.allowance.specs.Allowing.{empty, no_machines, unused}

-- the quotas of the first machines, `count` of them, with nothing used, and empty ones after them
unfoldable pub opened : ℕ → List Quota → List Quota
opened count [] = []
opened zero (q ∷ qs) = empty ∷ opened zero qs
opened (suc count) (q ∷ qs) = unused q ∷ opened count qs

-- 'the share not above the ceiling'
unfoldable pub are_ordered : List Quota → Bool
are_ordered [] = true
are_ordered (q ∷ qs) = leb q.share q.ceiling && are_ordered qs

-- the shares together
unfoldable pub shares : List Quota → ℕ
shares [] = 0
shares (q ∷ qs) = q.share + shares qs

-- 'one to four machines', 'T from 1 to 100,000', shares and ceilings of the machines there
unfoldable pub is_accepted : ℕ → ℕ → List Quota → Bool
is_accepted count steps qs =
    leb 1 count && (leb count 4 && (leb 1 steps && (leb steps 100000 && (are_ordered (opened count qs) && leb (shares (opened count qs)) steps))))

-- the same as a statement
pub record Terms (count steps : ℕ) (qs : List Quota) : Type 0 where
  pub one : 1 ≤ count
  pub four : count ≤ 4
  pub some : 1 ≤ steps
  pub most : steps ≤ 100000
  pub ordered : (m : ℕ) → m < count → (get_or qs m empty).share ≤ (get_or qs m empty).ceiling
  pub together : shares (take count qs) ≤ steps

abbrev pub allowance : ℕ → ℕ → List Quota → Allowance
allowance count steps qs = record { steps = steps; count = count; quotas = opened count qs }

-- 'refused with 18 at opening, which leaves no machines'
unfoldable pub allowance_from : ℕ → ℕ → List Quota → Allowance
allowance_from count steps qs = cond (is_accepted count steps qs) (allowance count steps qs) (allowance 0 0 qs)

abbrev pub open_answer : ℕ → ℕ → List Quota → Answer
open_answer count steps qs = cond (is_accepted count steps qs) Answer.Taken (Answer.Refused BadTerms)

-- as code gives it, and what it stands for: the answer, and the allowance left, of no machines after a refusal (`answers_opening`, `leaves_opening`)
abbrev pub opened_as : ℕ → ℕ → List Quota → Result Allowance Refusal
opened_as count steps qs = cond (is_accepted count steps qs) (Ok (allowance count steps qs)) (Err BadTerms)

abbrev pub answer_of_opened : Result Allowance Refusal → Answer
answer_of_opened (Ok a) = Answer.Taken
answer_of_opened (Err why) = Answer.Refused why

abbrev pub left_by : Result Allowance Refusal → Allowance
left_by (Ok a) = a
left_by (Err why) = no_machines
