-- THE ACCEPTED STEPS OF A SWEEP ARE THE CARD'S (document 02, order 12): the card that stands in block and loan after it has made as many steps more as the sweep counts.
use Prim.Native.Nat.{ℕ, ◌+◌, ◌≤◌}
use mathlib.Core.Path.{◌≡◌, refl, sym, ◌∙◌, ap, subst}
use mathlib.Core.Bool.{Bool, true, false, cond}
use mathlib.Core.List.{List, [], ◌∷◌, ◌++◌, append_assoc, append-nil}
use native.Mathlib.Omega.{arith}
use lib.ListN.{length}
use Rattle.construction.specs.declared.{cells.Announcement.Announcement, answers.Answer.Answer, answers.Answered.Answered, card.Card.Card, cells.Flag.Flag}
use Rattle.construction.specs.declared.{accesses.Label.Label, cells.Words.Words}
use Rattle.construction.specs.Parts.{local_at}
use Rattle.construction.specs.Machine.{advance}
use Rattle.construction.specs.Requests.{is_idle, returned, step_answer, call, step}
use Rattle.construction.specs.Opening.{opened}
use Rattle.construction.specs.History.{Entry, Observation, opening, observe, observe_all, run}
use Rattle.construction.proofs.Observing.Entries.{on_call, on_step}
use Rattle.construction.proofs.Observing.Runs.{opened_consistent}
use Rattle.construction.specs.Cells.{FitsWords}
use Rattle.block.specs.Cards.{card_of}
use Rattle.calls.specs.Tables.{request_in}
use Rattle.loan.specs.Loans.{loan_words}
use Rattle.lent_steps.specs.Steps.{answer_to}
use Rattle.lent_text.specs.Opened.{opened_block}
use Rattle.lent_runs.specs.Runs.{Memory, AllFit, handing, opened_memory, memory_of}
use Rattle.lent_sweep.specs.declared.Counts.{Counts}
use Rattle.lent_sweep.specs.Sweeps.{none, with_done, with_answer, is_again, Sweep, sweep_step, swept}
use Rattle.lent_sweep.specs.Entries.{call_of, follows, entries, memory_in, before, with_sweep}
use Rattle.lent_sweep.proofs.Statements.{remember_append, one_remembers, fit_append, entries_fit, answer_is, sweep_runs}

-- an accepted step counts once
returned_counts : (k : Counts) (a : Announcement) (f : Flag) (steps : ℕ) → (with_answer k (returned a f steps)).accepted ≡ k.accepted + 1
returned_counts k a Flag.Done steps = by a.fault
  where
    by : (t : Bool) → (with_done k t steps).accepted ≡ k.accepted + 1
    by true = refl
    by false = refl
returned_counts k a Flag.Active steps = by a.fault
  where
    by : (t : Bool) → (with_done k t steps).accepted ≡ k.accepted + 1
    by true = refl
    by false = refl
returned_counts k a Flag.Exit steps = refl

pub answer_counts : (k : Counts) (place : Label) (a : Announcement) (steps : ℕ) → (with_answer k (step_answer place a steps)).accepted ≡ k.accepted + 1
answer_counts k place a steps = by (is_idle place)
  where
    by : (t : Bool) → (with_answer k (cond t (returned a a.flag steps) Answer.Run)).accepted ≡ k.accepted + 1
    by true = returned_counts k a a.flag steps
    by false = refl

step_counts : (k : Counts) (c : Card) (i : ℕ) → c.limit ≤ 1000000000000000000 →
    (step c i).card.steps + k.accepted ≡ c.steps + (with_answer k (step c i).answer).accepted
unfolding advance
step_counts k c i capped =
    on_step (λ (r : Answered). r.card.steps + k.accepted ≡ c.steps + (with_answer k r.answer).accepted) c (λ why. refl) i
    (λ l b h.
    let l' = local_at (advance c i) i in
    omega (arith, answer_counts k l'.control.place l'.announcement l'.steps))

call_steps : (c : Card) (i k : ℕ) (inputs : Words) → (call c i k inputs).card.steps ≡ c.steps
call_steps c i k inputs = on_call (λ (r : Answered). r.card.steps ≡ c.steps) c (λ why. refl) i k inputs (λ _ _ _. refl)

-- a list of entries behind another
pub observe_append : (es fs : List Entry) (o : Card) (m : Observation) → observe_all o m (es ++ fs) ≡ observe_all o (observe_all o m es) fs
unfolding observe_all
observe_append [] fs o m = refl
observe_append (e ∷ es) fs o m = observe_append es fs o (observe o m e)

follow_steps : (o : Card) (m : Observation) (t : Bool) (calls : List ℕ) (i : ℕ) → (observe_all o m (follows t (call_of calls i) [])).card.steps ≡ m.card.steps
unfolding observe_all observe
follow_steps o m true calls i = call_steps m.card i (request_in calls i).program (request_in calls i).inputs
follow_steps o m false calls i = refl

-- the entries of a schedule, one step after the other
pub entries_more : (calls : List ℕ) (s : Sweep) (i : ℕ) (is : List ℕ) →
    entries calls s (i ∷ is) ≡ entries calls s (i ∷ []) ++ entries calls (sweep_step calls s i) is
unfolding entries
entries_more calls s i is = by (is_again calls i (answer_to s.block s.loan i))
  where
    by : (t : Bool) → ◌≡◌ {A = List Entry} (Entry.Step i ∷ follows t (call_of calls i) (entries calls (sweep_step calls s i) is))
        (Entry.Step i ∷ (follows t (call_of calls i) [] ++ entries calls (sweep_step calls s i) is))
    by true = refl
    by false = refl

module _
    (t b l : List ℕ) (long : 1456 ≤ length b) (lent : loan_words (opened_block t b) ≤ length l) (calls : List ℕ)
    (words : (i : ℕ) → FitsWords (request_in calls i).inputs)
  where
    abbrev o : Card
    o = (opened t).card

    abbrev first : Memory
    first = opened_memory t b l

    abbrev reached : List Entry → Memory
    reached es = memory_of t b l (handing first es)

    abbrev at : List Entry → Counts → Sweep
    at es k = record { block = (reached es).block; loan = (reached es).loan; counts = k }

    pub one_step :
        (es : List Entry) → AllFit (handing first es) → (k : Counts) (i : ℕ) →
        (run o (es ++ entries calls (at es k) (i ∷ []))).card.steps + k.accepted
        ≡ (run o es).card.steps + (with_answer k (answer_to (reached es).block (reached es).loan i)).accepted
    unfolding entries observe_all observe
    one_step es fits k i =
        let m = run o es in
        let x = answer_to (reached es).block (reached es).loan i in
        let e = answer_is t b l long lent es fits i in
        let a = ap (λ (z : Observation). z.card.steps) (observe_append es (Entry.Step i ∷ follows (is_again calls i x) (call_of calls i) []) o (opening o)) in
        let f = follow_steps o (observe o m (Entry.Step i)) (is_again calls i x) calls i in
        let c = step_counts k m.card i (opened_consistent t es).inv.capped in
        omega (arith, ap (λ (y : Answer). (with_answer k y).accepted) e)

    accepted_from :
        (schedule : List ℕ) (es : List Entry) → AllFit (handing first es) → (k : Counts) →
        (run o (es ++ entries calls (at es k) schedule)).card.steps + k.accepted
        ≡ (run o es).card.steps + (swept calls (at es k) schedule).counts.accepted
    unfolding swept entries
    accepted_from [] es fits k = rw (append-nil es) refl
    accepted_from (i ∷ is) es fits k =
        let s = at es k in
        let x = answer_to (reached es).block (reached es).loan i in
        let made = entries calls s (i ∷ []) in
        let q : reached (es ++ made) ≡ memory_in (sweep_step calls s i) = remember_append es made first ∙ one_remembers calls s i in
        let next : at (es ++ made) (with_answer k x) ≡ sweep_step calls s i = λ j. record { block = (q j).block; loan = (q j).loan; counts = with_answer k x } in
        let here = one_step es fits k i in
        let rest = accepted_from is (es ++ made) (fit_append es made first fits (entries_fit calls words (i ∷ []) s)) (with_answer k x) in
        let rest' = subst
        (λ (z : Sweep). (run o ((es ++ made) ++ entries calls z is)).card.steps + (with_answer k x).accepted ≡ (run o (es ++ made)).card.steps + (swept calls
        z is).counts.accepted)
        next rest in
        let list : es ++ entries calls s (i ∷ is) ≡ (es ++ made) ++ entries calls (sweep_step calls s i) is =
        ap (λ (z : List Entry). es ++ z) (entries_more calls s i is) ∙ sym (append_assoc es made (entries calls (sweep_step calls s i) is)) in
        omega (arith, ap (λ (z : List Entry). (run o z).card.steps) list)

    pub accepted_steps_lem :
        (es : List Entry) → AllFit (handing first es) → (schedule : List ℕ) →
        let z = swept calls (before t b l es) schedule in
        (card_of z.block z.loan).steps ≡ (run o es).card.steps + z.counts.accepted
    accepted_steps_lem es fits schedule =
        let r = sweep_runs t b l long lent es fits calls words schedule in
        let card : card_of (memory_of t b l _).block (memory_of t b l _).loan ≡ (run o (with_sweep t b l es calls schedule)).card =
        ap (λ (m : Observation). m.card) r.observed in
        let after = ap (λ (m : Memory). (card_of m.block m.loan).steps) r.memory in
        let a = accepted_from schedule es fits none in
        omega (arith, ap (λ (c : Card). c.steps) card)
