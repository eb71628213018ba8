-- A schedule step by step is the run of demand 3 over its calls and steps.
use Prim.Native.Nat.{ℕ, zero, suc, ◌<◌}
use mathlib.Core.Path.{◌≡◌, refl, sym, ap, ◌∙◌}
use mathlib.Core.Bool.{false}
use mathlib.Core.Logic.{◌⊎◌, inl, inr}
use mathlib.Core.List.{List, [], ◌∷◌}
use native.Mathlib.Omega.{arith}
use lib.ListN.{length, get_or, take}
use Rattle.executions.specs.declared.Request.{Request}
use Rattle.construction.specs.declared.{card.Card.Card, answers.Answer.Answer, answers.Answered.Answered}
use Rattle.construction.specs.Answers.{is_refused}
use Rattle.construction.specs.Requests.{is_busy, call, step}
use Rattle.construction.specs.History.{Entry, Observation, opening, observe, observe_all, run}
use Rattle.executions.specs.Schedules.{no_request, calls_of, calls_from, steps_of, scheduled, step_at, IsSchedule, after}
use Rattle.construction.proofs.Observing.Entries.{on_call}
use Rattle.construction.proofs.Observing.Growth.{observe_append}
use Rattle.executions.proofs.Branches.{told, Accepts, Ends, quiet_idle, idle_quiet, after_processes}

steps_card : (o : Card) (m : Observation) (s : List ℕ) → (observe_all o m (steps_of s)).card ≡ after m.card s
unfolding observe_all observe
steps_card o m [] = refl
steps_card o m (i ∷ s) = steps_card o (observe o m (Entry.Step i)) s

calls_processes : (o : Card) (m : Observation) (calls : List Request) (n k : ℕ) →
    (observe_all o m (calls_from calls n k)).card.process_count ≡ m.card.process_count
unfolding observe_all observe calls_from
calls_processes o m calls zero k = refl
calls_processes o m calls (suc n) k =
    calls_processes o (observe o m (Entry.Call k (get_or calls k _).program (get_or calls k _).inputs)) calls n (suc k)
    ∙ on_call (λ r. r.card.process_count ≡ m.card.process_count) m.card (λ why. refl) k _ _ (λ _ _ _. refl)

-- the card after m calls from process k on, call by call
unfoldable pub called_from : Card → List Request → ℕ → ℕ → Card
called_from c calls zero k = c
called_from c calls (suc m) k =
    let x = get_or calls k no_request in
    called_from (call c k x.program x.inputs).card calls m (suc k)

called_card : (o : Card) (m : Observation) (calls : List Request) (n k : ℕ) → (observe_all o m (calls_from calls n k)).card ≡ called_from m.card calls n k
unfolding observe_all observe calls_from called_from
called_card o m calls zero k = refl
called_card o m calls (suc n) k =
    called_card o (observe o m (Entry.Call k (get_or calls k no_request).program (get_or calls k no_request).inputs)) calls n (suc k)

pub called_run : (o : Card) (calls : List Request) → (run o (calls_of o calls)).card ≡ called_from o calls o.process_count 0
called_run o calls = called_card o (opening o) calls o.process_count 0

module _ (o : Card) (calls : List Request) where
  -- the card after the calls
  abbrev pub start : Card
  start = (run o (calls_of o calls)).card

  pub scheduled_card : (s : List ℕ) → (scheduled o calls s).card ≡ after start s
  scheduled_card s =
      ap (λ (m : Observation). m.card) (observe_append o (opening o) (calls_of o calls) (steps_of s))
      ∙ steps_card o (run o (calls_of o calls)) s

  start_processes : start.process_count ≡ o.process_count
  start_processes = calls_processes o (opening o) calls o.process_count 0

  pub end_processes : (s : List ℕ) → (after start s).process_count ≡ o.process_count
  end_processes s = after_processes start s ∙ start_processes

  -- the k-th step
  abbrev step_from : Card → List ℕ → ℕ → Answered
  step_from c s k = step (after c (take k s)) (get_or s k 0)

  pub step_at_lem : (s : List ℕ) (k : ℕ) → step_at o calls s k ≡ step_from start s k
  step_at_lem s k = ap (λ (c : Card). step c (get_or s k 0)) (scheduled_card (take k s))

  accepts_at : (c : Card) (s : List ℕ) → Accepts c s → (k : ℕ) → k < length s → is_refused (step_from c s k).answer ≡ false
  accepts_at c [] h k lt = absurd (omega arith)
  accepts_at c (i ∷ s) h zero lt = h.0
  accepts_at c (i ∷ s) h (suc k) lt = accepts_at (step c i).card s h.1 k (omega arith)

  at_accepts : (c : Card) (s : List ℕ) → ((k : ℕ) → k < length s → is_refused (step_from c s k).answer ≡ false) → Accepts c s
  at_accepts c [] h = tt
  at_accepts c (i ∷ s) h = (h 0 (omega arith), at_accepts (step c i).card s (λ k lt. h (suc k) (omega arith)))

  pub told_length : (c : Card) (s : List ℕ) → length (told c s) ≡ length s
  told_length c [] = refl
  told_length c (i ∷ s) = ap suc (told_length (step c i).card s)

  pub told_at_lem : (c : Card) (s : List ℕ) (k : ℕ) → k < length s → get_or (told c s) k Answer.Run ≡ (step_from c s k).answer
  told_at_lem c [] k lt = absurd (omega arith)
  told_at_lem c (i ∷ s) zero lt = refl
  told_at_lem c (i ∷ s) (suc k) lt = told_at_lem (step c i).card s k (omega arith)

  -- the condition of a schedule, both ways
  pub is_schedule : (L : ℕ) (s : List ℕ) → Accepts start s → Ends L start s → IsSchedule o calls L s
  is_schedule L s a e =
      record {
        accepted = λ k lt. ap (λ (r : Answered). is_refused r.answer) (step_at_lem s k) ∙ accepts_at start s a k lt;
        ends = go e;
      }
    where
      go : Ends L start s → (length s ≡ L) ⊎ ((length s < L) × ((i : ℕ) → i < o.process_count → is_busy (scheduled o calls s).card i ≡ false))
      go (inl e) = inl e
      go (inr q) =
          inr (
            q.0,
            λ i lt. ap (λ (c : Card). is_busy c i) (scheduled_card s) ∙ quiet_idle (after start s) (after start s).process_count i q.1
                (omega (arith, end_processes s)),
          )

  pub accepts : (s : List ℕ) → ((k : ℕ) → k < length s → is_refused (step_at o calls s k).answer ≡ false) → Accepts start s
  accepts s h = at_accepts start s (λ k lt. ap (λ (r : Answered). is_refused r.answer) (sym (step_at_lem s k)) ∙ h k lt)

  pub schedule_accepts : (L : ℕ) (s : List ℕ) → IsSchedule o calls L s → Accepts start s
  schedule_accepts L s h = accepts s h.accepted

  pub schedule_ends : (L : ℕ) (s : List ℕ) → IsSchedule o calls L s → Ends L start s
  schedule_ends L s h = go h.ends
    where
      go : (length s ≡ L) ⊎ ((length s < L) × ((i : ℕ) → i < o.process_count → is_busy (scheduled o calls s).card i ≡ false)) → Ends L start s
      go (inl e) = inl e
      go (inr q) =
          inr (
            q.0,
            idle_quiet (after start s) (after start s).process_count
                (λ i lt. ap (λ (c : Card). is_busy c i) (sym (scheduled_card s)) ∙ q.1 i (omega (arith, end_processes s))),
          )
