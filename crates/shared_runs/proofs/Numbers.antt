-- Ceilings and turns on the words of the machines; and refusals 5 and 19 by their numbers, both ways
use Rattle.std.specs.Prelude.{Ok, Err}
use Prim.Native.Nat.{ℕ, ◌<◌, ◌≤◌}
use mathlib.Core.Path.{◌≡◌, refl, sym, ap, subst, ◌∙◌}
use mathlib.Core.Bool.{Bool, true, false, not, cond, ◌&&◌, ◌||◌, true≢false}
use lib.ListN.{length}
use mathlib.Core.Logic.{◌⊎◌, inl, inr}
use mathlib.Core.List.{List}
use lib.Dec.{eqb, ltb}
use borrow.Author.Tests.{ltb-false}
use Rattle.construction.specs.declared.{answers.Answer.Answer, cells.Announcement.Announcement, cells.Flag.Flag, accesses.Label.Label, answers.Refusal.Refusal}
use Rattle.construction.specs.declared.cells.Flag.TheVariants.{Done, Active, Exit}
use Rattle.construction.specs.declared.answers.Refusal.TheVariants as refusals
use Rattle.construction.specs.Answers.{refused_with, number_of, is_refused, answer_fields}
use Rattle.construction.specs.Requests.{is_idle, returned, step_answer}
use Rattle.construction.specs.History.{Entry}
use Rattle.construction.specs.Types.{Verdict}
use Rattle.construction.proofs.Basics.{clash}
use Rattle.construction.proofs.Statements.AnswerFields.{answer_known}
use Rattle.requests.specs.Judging.{judged, if_text_accepted}
use Rattle.block.specs.Layout.{process_count_in, program_count_in, variable_count_in, limit_in, steps_in, gate_in, from_in, control_in, count_in, last_in}
use Rattle.loan.specs.Loans.{loan_words}
use Rattle.lent_card.specs.Requests.{call_answer, exit_answer, read_answer, change_answer, value_in, change_text, behind_in}
use Rattle.lent_steps.specs.Steps.{lent_judged, step_verdict, advanced, answer_to}
use Rattle.lent_runs.specs.Runs.{Handed, Memory, Reply, reply_in, as_left}
use Rattle.allowance.specs.declared.{Quota.Quota, Allowance.Allowance}
use Rattle.allowance.specs.Opening.{is_accepted, allowance}
use Rattle.allowance.specs.Requests.{Request, Outcome, Machines, Answered, kept, request, after}
use Rattle.allowance.specs.Counting.{steps_of, steps_of_all}
use Rattle.allowance.proofs.Cases.{on_request}
use Rattle.allowance.proofs.Statements.{not_there, Stopped, nineteen_only, nineteen, Exceeds, nineteen_says, exceeds_nineteen, never_above_ceiling}
use Rattle.allowance.proofs.Statements.{never_above_turn, share_is_sure, share, ceiling}
use Rattle.shared_processor.specs.Requests.{is_card_step, lent_cards, refusal_of, reply_for, memory_in, machines_in, request_to, reply_to}
use Rattle.shared_processor.specs.Parts.{part}
use Rattle.shared_runs.specs.Runs.{five_fields, Shared, shared_reply, shared_run, standing, handed_all, shared_log}
use Rattle.shared_runs.proofs.Standing.{standing_run}

-- FROM AN ACCEPTED OPENING, with any words: 'Nobody passes a ceiling, all together never pass T', by the requests and replies alone
module _ (count steps : ℕ) (qs : List Quota) (accepted : is_accepted count steps qs ≡ true) (stride : ℕ) (blocks loans : List ℕ) (rs : List (Request Entry))
  where
    abbrev first : Shared
    first = record { allowance = allowance count steps qs; blocks = blocks; loans = loans }

    pub ceilings_shared :
        (m : ℕ) → steps_of lent_cards m 0 (shared_log stride first rs) ≤ ceiling lent_cards count steps qs accepted (memory_in stride blocks loans)
        (handed_all stride first rs) m
    ceilings_shared = never_above_ceiling lent_cards count steps qs accepted (memory_in stride blocks loans) (handed_all stride first rs)

    pub turn_shared : steps_of_all lent_cards 0 (shared_log stride first rs) ≤ steps
    turn_shared = never_above_turn lent_cards count steps qs accepted (memory_in stride blocks loans) (handed_all stride first rs)

-- 19 is no answer of a card
abbrev is_nineteen : Answer → Bool
is_nineteen Answer.Taken = false
is_nineteen Answer.Run = false
is_nineteen (Answer.Done number y steps) = false
is_nineteen (Answer.Exited steps) = false
is_nineteen (Answer.Value x) = false
is_nineteen (Answer.Refused r) = eqb (number_of r) 19
is_nineteen (Answer.RefusedAt r line) = false

call_by : (p q r : Bool) → is_nineteen (judged p refusals.NoProcess q refusals.NoProgram r refusals.Busy) ≡ false
call_by true true true = refl
call_by true true false = refl
call_by true false r = refl
call_by false q r = refl

exit_by : (p q : Bool) → is_nineteen (cond (not p) (Answer.Refused refusals.NoProcess) (cond (not q) (Answer.Refused refusals.NotBusy) Answer.Taken)) ≡ false
exit_by true true = refl
exit_by true false = refl
exit_by false q = refl

read_by : (p : Bool) (x : ℕ) → is_nineteen (cond (not p) (Answer.Refused refusals.NoPlace) (Answer.Value x)) ≡ false
read_by true x = refl
read_by false x = refl

step_by : (p q r s : Bool) → is_nineteen (lent_judged (judged p refusals.NoProcess q refusals.NotBusy r refusals.LimitReached) s) ≡ false
step_by false q r s = refl
step_by true false r s = refl
step_by true true false s = refl
step_by true true true true = refl
step_by true true true false = refl

returned_by : (a : Announcement) (f : Flag) (k : ℕ) → is_nineteen (returned a f k) ≡ false
returned_by a Done k = refl
returned_by a Active k = refl
returned_by a Exit k = refl

answer_by : (place : Label) (a : Announcement) (k : ℕ) → is_nineteen (step_answer place a k) ≡ false
answer_by place a k = go (is_idle place)
  where
    go : (t : Bool) → is_nineteen (cond t (returned a a.flag k) Answer.Run) ≡ false
    go true = returned_by a a.flag k
    go false = refl

step_own : (b l : List ℕ) (i : ℕ) → is_nineteen (answer_to b l i) ≡ false
unfolding answer_to step_verdict
step_own b l i = go (is_refused (step_verdict b l i))
  where
    go : (t : Bool) → is_nineteen
        (cond t (step_verdict b l i) (step_answer (control_in (advanced b l i) i).place (last_in (advanced b l i) i) (count_in (advanced b l i) i))) ≡ false
    go true = step_by (ltb i (process_count_in b) && ltb i 8) (not (is_idle (control_in b i).place)) (ltb (steps_in b) (limit_in b)) (ltb (length l) (loan_words b))
    go false = answer_by (control_in (advanced b l i) i).place (last_in (advanced b l i) i) (count_in (advanced b l i) i)

change_by :
    (p : Bool) (v : Verdict) (q r : Bool) →
    is_nineteen (cond (not p) (Answer.RefusedAt refusals.NoProgram 0)
    (if_text_accepted v (cond (not q) (Answer.RefusedAt refusals.NotAhead 0) (cond r (Answer.RefusedAt refusals.Unsettled 0) Answer.Taken)))) ≡ false
change_by false v q r = refl
change_by true (Err e) q r = refl
change_by true (Ok _) false r = refl
change_by true (Ok _) true true = refl
change_by true (Ok _) true false = refl

own_numbers : (b l : List ℕ) (e : Entry) → is_nineteen (reply_in b l e).answer ≡ false
unfolding call_answer exit_answer read_answer change_answer
own_numbers b l (Entry.Call i k inputs) =
    call_by (ltb i (process_count_in b) && ltb i 8) (ltb k (program_count_in b) && ltb k 8) (is_idle (control_in b i).place)
own_numbers b l (Entry.Exit i) = exit_by (ltb i (process_count_in b) && ltb i 8) (not (is_idle (control_in b i).place))
own_numbers b l (Entry.Step i) = step_own b l i
own_numbers b l (Entry.Trace i) = step_own b l i
own_numbers b l (Entry.Read v) = read_by (ltb v (variable_count_in b) && ltb v 64) (value_in b v)
own_numbers b l (Entry.Change k from t) =
    change_by (ltb k (program_count_in b) && ltb k 8) (change_text b t).verdict (ltb (gate_in b).seq from)
    (ltb (gate_in b).seq (from_in b k) || behind_in b (from_in b k) 8)

-- a request that gets 19 is a step, and no change
step_line : (e : Entry) (x : Answer) → is_card_step e x ≡ true → (why : Refusal) → refusal_of e why ≡ Answer.Refused why
step_line (Entry.Call i k inputs) x h why = clash (cc)
step_line (Entry.Exit i) x h why = clash (cc)
step_line (Entry.Step i) x h why = refl
step_line (Entry.Trace i) x h why = refl
step_line (Entry.Read v) x h why = clash (cc)
step_line (Entry.Change k from t) x h why = clash (cc)

five_not_nineteen : (e : Entry) → refusal_of e refusals.NoProcess ≡ Answer.Refused refusals.NoAllowance → ⊥
five_not_nineteen (Entry.Call i k inputs) h = clash (cc)
five_not_nineteen (Entry.Exit i) h = clash (cc)
five_not_nineteen (Entry.Step i) h = clash (cc)
five_not_nineteen (Entry.Trace i) h = clash (cc)
five_not_nineteen (Entry.Read v) h = clash (cc)
five_not_nineteen (Entry.Change k from t) h = clash (cc)

nineteen_not_five : (e : Entry) → refusal_of e refusals.NoAllowance ≡ refusal_of e refusals.NoProcess → ⊥
nineteen_not_five (Entry.Call i k inputs) h = clash (cc)
nineteen_not_five (Entry.Exit i) h = clash (cc)
nineteen_not_five (Entry.Step i) h = clash (cc)
nineteen_not_five (Entry.Trace i) h = clash (cc)
nineteen_not_five (Entry.Read v) h = clash (cc)
nineteen_not_five (Entry.Change k from t) h = clash (cc)

five_is : (e : Entry) → answer_fields (refusal_of e refusals.NoProcess) ≡ five_fields e
unfolding answer_fields
five_is (Entry.Call i k inputs) = refl
five_is (Entry.Exit i) = refl
five_is (Entry.Step i) = refl
five_is (Entry.Trace i) = refl
five_is (Entry.Read v) = refl
five_is (Entry.Change k from t) = refl

module _ (a : Allowance) (stride : ℕ) (blocks loans : List ℕ) (m : ℕ) (e : Entry) where
  abbrev machines : Machines Memory
  machines = machines_in a stride blocks loans

  abbrev asked : Handed
  asked = as_left (memory_in stride blocks loans m) e

  -- 5: a machine not there, and otherwise only what the card itself answers so
  pub five : a.count ≤ m → request_to a stride blocks loans m e ≡ kept machines Outcome.NoMachine
  unfolding request_to
  five p = not_there lent_cards machines m asked p

  pub five_number : a.count ≤ m → answer_fields (reply_to a stride blocks loans m e).answer ≡ five_fields e
  five_number p = ap (λ (y : Answered Memory Reply). answer_fields (reply_for e y.outcome).answer) (five p) ∙ five_is e

  five_answer :
      (reply_to a stride blocks loans m e).answer ≡ refusal_of e refusals.NoProcess →
      (a.count ≤ m) ⊎ ((reply_in (part 1456 blocks m) (part stride loans m) e).answer ≡ refusal_of e refusals.NoProcess)
  unfolding request_to
  five_answer =
      on_request lent_cards machines m asked
      (λ (y : Answered Memory Reply). (reply_for e y.outcome).answer ≡ refusal_of e refusals.NoProcess →
      (a.count ≤ m) ⊎ ((reply_in (part 1456 blocks m) (part stride loans m) e).answer ≡ refusal_of e refusals.NoProcess))
      (λ t _. inl (ltb-false m a.count t)) (λ t u v h. absurd (nineteen_not_five e h)) (λ t u v h. inr h) (λ t u h. inr h)

  pub number_five :
      answer_fields (reply_to a stride blocks loans m e).answer ≡ five_fields e →
      (a.count ≤ m) ⊎ ((reply_in (part 1456 blocks m) (part stride loans m) e).answer ≡ refusal_of e refusals.NoProcess)
  number_five h = five_answer (answer_known (reply_to a stride blocks loans m e).answer (refusal_of e refusals.NoProcess) (h ∙ sym (five_is e)))

  -- 19 by its number: exactly a step that the card itself accepts and that the rule does not allow; and then everything stays as it was
  pub nineteen_number : answer_fields (reply_to a stride blocks loans m e).answer ≡ refused_with 19 → Stopped lent_cards machines m asked
  unfolding request_to answer_fields
  nineteen_number h = nineteen_only lent_cards machines m asked
      (outcome (answer_known (reply_to a stride blocks loans m e).answer (Answer.Refused refusals.NoAllowance) h))
    where
      outcome : (reply_to a stride blocks loans m e).answer ≡ Answer.Refused refusals.NoAllowance →
          (request lent_cards machines (Request.To m asked)).outcome ≡ Outcome.NoAllowance
      outcome =
          on_request lent_cards machines m asked
          (λ (y : Answered Memory Reply). (reply_for e y.outcome).answer ≡ Answer.Refused refusals.NoAllowance → y.outcome ≡ Outcome.NoAllowance)
          (λ t h. absurd (five_not_nineteen e h)) (λ t u v _. refl)
          (λ t u v h. absurd (true≢false (sym (ap is_nineteen h) ∙ own_numbers (part 1456 blocks m) (part stride loans m) e)))
          (λ t u h. absurd (true≢false (sym (ap is_nineteen h) ∙ own_numbers (part 1456 blocks m) (part stride loans m) e)))

  pub number_nineteen :
      Stopped lent_cards machines m asked →
      (answer_fields (reply_to a stride blocks loans m e).answer ≡ refused_with 19) × (request_to a stride blocks loans m e ≡ kept machines Outcome.NoAllowance)
  unfolding request_to answer_fields
  number_nineteen x =
      let same = nineteen lent_cards machines m asked x in
      let answer : (reply_to a stride blocks loans m e).answer ≡ Answer.Refused refusals.NoAllowance =
      ap (λ (y : Answered Memory Reply). (reply_for e y.outcome).answer) same ∙ step_line e _ x.steps refusals.NoAllowance in
      (ap answer_fields answer, same)

-- FROM AN ACCEPTED OPENING: 19 by its number after every list of requests, by the terms of the opening and the requests and replies so far
module _ (count steps : ℕ) (qs : List Quota) (accepted : is_accepted count steps qs ≡ true) (stride : ℕ) (blocks loans : List ℕ) (rs : List (Request Entry))
  where
    abbrev start : Shared
    start = first count steps qs accepted stride blocks loans rs

    abbrev now : Shared
    now = shared_run stride start rs

    abbrev next : ℕ → Entry → Handed
    next m e = as_left (memory_in stride now.blocks now.loans m) e

    abbrev ExceedsNow : ℕ → Entry → Type 0
    ExceedsNow m e = Exceeds lent_cards count steps qs accepted (memory_in stride blocks loans) (handed_all stride start rs) m (next m e)

    abbrev reply : ℕ → Entry → Answer
    reply m e = (shared_reply stride now (Request.To m e)).answer

    stopped_now : (m : ℕ) (e : Entry) → answer_fields (reply m e) ≡ refused_with 19 →
        (request lent_cards (after lent_cards (standing stride start) (handed_all stride start rs)) (Request.To m (next m e))).outcome ≡ Outcome.NoAllowance
    stopped_now m e h =
        subst (λ (x : Machines Memory). (request lent_cards x (Request.To m (next m e))).outcome ≡ Outcome.NoAllowance) (standing_run stride start rs)
        (ap (λ (y : Answered Memory Reply). y.outcome)
        (nineteen lent_cards (standing stride now) m (next m e) (nineteen_number now.allowance stride now.blocks now.loans m e h)))

    pub nineteen_shared : (m : ℕ) (e : Entry) → answer_fields (reply m e) ≡ refused_with 19 → ExceedsNow m e
    nineteen_shared m e h =
        nineteen_says lent_cards count steps qs accepted (memory_in stride blocks loans) (handed_all stride start rs) m (next m e) (stopped_now m e h)

    pub shared_nineteen : (m : ℕ) (e : Entry) → ExceedsNow m e → answer_fields (reply m e) ≡ refused_with 19
    shared_nineteen m e x =
        (number_nineteen now.allowance stride now.blocks now.loans m e
        (nineteen_only lent_cards (standing stride now) m (next m e)
        (subst (λ (y : Machines Memory). (request lent_cards y (Request.To m (next m e))).outcome ≡ Outcome.NoAllowance) (sym (standing_run stride start rs))
        (ap (λ (y : Answered Memory Reply). y.outcome)
        (exceeds_nineteen lent_cards count steps qs accepted (memory_in stride blocks loans) (handed_all stride start rs) m (next m e) x))))).0

    -- 'Within its share a machine's step always has its allowance'
    pub share_shared :
        (m : ℕ) (e : Entry) →
        steps_of lent_cards m 0 (shared_log stride start rs) < share lent_cards count steps qs accepted (memory_in stride blocks loans) (handed_all stride start rs) m →
        answer_fields (reply m e) ≡ refused_with 19 → ⊥
    share_shared m e p h =
        share_is_sure lent_cards count steps qs accepted (memory_in stride blocks loans) (handed_all stride start rs) m (next m e) p (stopped_now m e h)
