-- ONLY THE LIMIT REFUSES A STEP OF A SWEEP (document 02, order 12): where every process has an operation under way and is called again with a program that is there,
-- a sweep over processes of the card accepts as many steps as the schedule has, or as the card's limit leaves.
use Prim.Native.Nat.{ℕ, suc, ◌+◌, ◌-◌, ◌<◌, ◌≤◌, min}
use mathlib.Core.Path.{◌≡◌, refl, sym, ◌∙◌, ap, subst}
use mathlib.Core.Bool.{Bool, true, false, cond, not, ◌&&◌}
use mathlib.Core.Logic.{◌≢◌}
use mathlib.Core.List.{List, [], ◌∷◌, ◌++◌, append_assoc, append-nil}
use native.Mathlib.Decide.{ℕ_discrete}
use native.Mathlib.Nat.{zero-add}
use native.Mathlib.Omega.{arith}
use lib.Dec.{ltb}
use lib.ListN.{length}
use lib.Seq.{get_or-set_same, get_or-set_other}
use borrow.Author.Tests.{lt-ltb, le-ltb, ltb-true, ltb-false}
use Rattle.construction.specs.declared.{cells.Announcement.Announcement, answers.Answer.Answer, answers.Answered.Answered, card.Card.Card}
use Rattle.construction.specs.declared.{texts.Contents.Contents, cells.Flag.Flag, accesses.Control.Control}
use Rattle.construction.specs.declared.accesses.Label.TheVariants.{P1}
use Rattle.construction.specs.declared.answers.Refusal.TheVariants.{LimitReached}
use Rattle.construction.specs.Parts.{idle_control, local_at, with_local}
use Rattle.construction.specs.Machine.{advance, access_of}
use Rattle.construction.specs.Requests.{is_process, is_program, is_idle, is_busy, refused, returned, invoked, call, step}
use Rattle.construction.specs.Opening.{opened}
use Rattle.construction.specs.History.{Entry, Observation, opening, observe, observe_all, run}
use Rattle.construction.proofs.Basics.{and_true}
use Rattle.construction.proofs.Observing.Consistency.{Consistent, entry_kept}
use Rattle.construction.proofs.Observing.Entries.{on_step}
use Rattle.construction.proofs.Observing.Runs.{opened_consistent}
use Rattle.construction.proofs.Statements.OneAccess.{one_access}
use Rattle.construction.proofs.Statements.Refusals.{call_taken, step_accepted}
use Rattle.construction.specs.Cells.{FitsWords}
use Rattle.calls.specs.Tables.{has_request, request_in}
use Rattle.loan.specs.Loans.{loan_words}
use Rattle.lent_steps.specs.Steps.{answer_to}
use Rattle.lent_text.specs.Opened.{opened_block}
use Rattle.lent_runs.specs.Runs.{Memory, AllFit, handing, opened_memory, memory_of}
use Rattle.lent_sweep.specs.declared.Counts.{Counts}
use Rattle.lent_sweep.specs.Sweeps.{none, with_answer, is_return, is_again, Sweep, sweep_step, swept}
use Rattle.lent_sweep.specs.Entries.{call_of, follows, entries, memory_in, before}
use Rattle.lent_sweep.specs.Limits.{AllBusy, AllCalled, Within}
use Rattle.lent_sweep.proofs.Statements.{remember_append, one_remembers, fit_append, entries_fit, answer_is}
use Rattle.lent_sweep.proofs.Accepted.{answer_counts, observe_append, entries_more, one_step}

-- an operation has returned if and only if its process is idle then
returned_is : (a : Announcement) (f : Flag) (steps : ℕ) → is_return (returned a f steps) ≡ true
returned_is a Flag.Done steps = refl
returned_is a Flag.Active steps = refl
returned_is a Flag.Exit steps = refl

answer_is_return : (idle : Bool) (a : Announcement) (steps : ℕ) → not idle ≡ not (is_return (cond idle (returned a a.flag steps) Answer.Run))
answer_is_return true a steps = ap not (sym (returned_is a a.flag steps))
answer_is_return false a steps = refl

and_true_right : (a b : Bool) → b ≡ true → a && b ≡ a
and_true_right true b e = e
and_true_right false b e = refl

-- the processes after a step of process i: it has an operation under way unless that returned, and the others have
pub record BusyBut (c : Card) (i : ℕ) (x : Answer) : Type 0 where
  pub own : is_busy c i ≡ not (is_return x)
  pub others : (j : ℕ) → j < c.process_count → j ≢ i → is_busy c j ≡ true

step_busy : (c : Card) (i : ℕ) → AllBusy c → i < c.process_count → BusyBut (step c i).card i (step c i).answer
step_busy c i busy below =
    on_step (λ (r : Answered). BusyBut r.card i r.answer) c (λ why. record { own = busy i below; others = λ j lt ne. busy j lt }) i
    (λ lt b l.
    let p = ap (λ (x : Contents). x.process_count) (one_access c i).text.0 in
    record {
      own = answer_is_return (is_idle (local_at (advance c i) i).control.place) (local_at (advance c i) i).announcement (local_at (advance c i) i).steps;
      others =
          λ j lj ne.
          ap (λ (t : Control). not (is_idle t.place)) (sym ((one_access c i).others j ne).0.elements) ∙ busy j (omega (arith, p));
    })

-- .. and after the call that follows it
module _ (o : Card) (m : Observation) (O : Consistent o m) (calls : List ℕ) (called : AllCalled o calls) (i : ℕ) (below : i < o.process_count) where
  abbrev c : Card
  c = m.card

  abbrev k : ℕ
  k = (request_in calls i).program

  same_processes : c.process_count ≡ o.process_count
  same_processes = ap (λ (x : Contents). x.process_count) O.text

  called_busy : is_busy c i ≡ false → ((j : ℕ) → j < c.process_count → j ≢ i → is_busy c j ≡ true) → AllBusy (call c i k (request_in calls i).inputs).card
  unfolding access_of
  called_busy idle others =
      subst (λ (r : Answered). AllBusy r.card) (sym (call_taken c i k (request_in calls i).inputs inside there idle)) (λ j lj. go j lj (ℕ_discrete j i))
    where
      inside : is_process c i ≡ true
      inside = rw (lt-ltb i c.process_count (omega (arith, same_processes)), lt-ltb i 8 (omega (arith, O.inv.good.fits.few, same_processes))) refl

      there : is_program c k ≡ true
      there = subst (λ (x : Contents). ltb k x.program_count && ltb k 8 ≡ true) (sym O.text) (called i below).1

      new : Control
      new = record { place = P1; target = 0 }

      has : i < length c.controls
      has = omega (arith, O.inv.sizes.controls, O.inv.good.fits.few, same_processes)

      go : (j : ℕ) → j < c.process_count → Dec (j ≡ i) → is_busy (with_local c i (invoked (local_at c i) k (request_in calls i).inputs)) j ≡ true
      go j lj (yes e) = rw e (ap (λ (t : Control). not (is_idle t.place)) (get_or-set_same c.controls i new idle_control has))
      go j lj (no ne) = ap (λ (t : Control). not (is_idle t.place)) (get_or-set_other c.controls i j new idle_control ne) ∙ others j lj ne

  follows_busy : (t : Bool) → (t ≡ true → AllBusy (call c i k (request_in calls i).inputs).card) → (t ≡ false → AllBusy c) →
      AllBusy (observe_all o m (follows t (call_of calls i) [])).card
  unfolding observe_all observe
  follows_busy true f g = f refl
  follows_busy false f g = g refl

  follow_busy : (x : Answer) → BusyBut c i x → AllBusy (observe_all o m (follows (is_again calls i x) (call_of calls i) [])).card
  follow_busy x h = follows_busy (is_again calls i x) (λ e. called_busy (h.own ∙ ap not (and_true (is_return x) (has_request calls i) e).0) h.others)
      (λ e j lj. go e j lj (ℕ_discrete j i))
    where
      ran : is_again calls i x ≡ false → is_return x ≡ false
      ran e = sym (and_true_right (is_return x) (has_request calls i) (called i below).0) ∙ e

      go : is_again calls i x ≡ false → (j : ℕ) → j < c.process_count → Dec (j ≡ i) → is_busy c j ≡ true
      go e j lj (yes q) = rw q (h.own ∙ ap not (ran e))
      go e j lj (no ne) = h.others j lj ne

step_limited : (c : Card) (i : ℕ) → is_process c i ≡ true → is_busy c i ≡ true → c.limit ≤ c.steps → step c i ≡ refused c LimitReached
unfolding step
step_limited c i p b h = rw (p, b, le-ltb c.steps c.limit h)

-- a step of a sweep, and the call that follows it, leave every process with an operation under way; it is accepted below the limit, and refused at it
module _ (t : List ℕ) (es : List Entry) (calls : List ℕ) (called : AllCalled (opened t).card calls) (busy : AllBusy (run (opened t).card es).card) (i : ℕ)
    (below : i < (opened t).card.process_count) where
  abbrev o₁ : Card
  o₁ = (opened t).card

  abbrev m₁ : Observation
  m₁ = run o₁ es

  abbrev x₁ : Answer
  x₁ = (step m₁.card i).answer

  inside : i < m₁.card.process_count
  inside = omega (arith, ap (λ (x : Contents). x.process_count) (opened_consistent t es).text)

  pub stays_busy : AllBusy (run o₁ (es ++ (Entry.Step i ∷ follows (is_again calls i x₁) (call_of calls i) []))).card
  unfolding observe_all observe
  stays_busy =
      subst (λ (z : Observation). AllBusy z.card) (sym (observe_append es (Entry.Step i ∷ follows (is_again calls i x₁) (call_of calls i) []) o₁ (opening o₁)))
      (follow_busy o₁ (observe o₁ m₁ (Entry.Step i)) (entry_kept o₁ m₁ (opened_consistent t es) (Entry.Step i)) calls called i below x₁
      (step_busy m₁.card i busy inside))

  process : is_process m₁.card i ≡ true
  process =
      let O = opened_consistent t es in
      rw (lt-ltb i m₁.card.process_count inside, lt-ltb i 8 (omega (arith, O.inv.good.fits.few, ap (λ (x : Contents). x.process_count) O.text))) refl

  pub counts_below : (n : Counts) → m₁.card.steps < m₁.card.limit → (with_answer n x₁).accepted ≡ n.accepted + 1
  counts_below n h =
      let l' = local_at (advance m₁.card i) i in
      ap (λ (r : Answered). (with_answer n r.answer).accepted) (step_accepted m₁.card i process (busy i inside) h)
      ∙ answer_counts n l'.control.place l'.announcement l'.steps

  pub counts_at : (n : Counts) → m₁.card.limit ≤ m₁.card.steps → (with_answer n x₁).accepted ≡ n.accepted
  counts_at n h = ap (λ (r : Answered). (with_answer n r.answer).accepted) (step_limited m₁.card i process (busy i inside) h)

-- accepted steps by the limit, one step and then n more
tally :
    (n limit s s' k k' r : ℕ) → s' + k ≡ s + k' → (s < limit → k' ≡ k + 1) → (limit ≤ s → k' ≡ k) → r ≡ k' + min n (limit - s') →
    r ≡ k + min (suc n) (limit - s)
tally n limit s s' k k' r e f g h = by (ltb s limit) refl
  where
    by : (t : Bool) → ltb s limit ≡ t → r ≡ k + min (suc n) (limit - s)
    by true q = let z = f (ltb-true s limit q) in omega (arith, ltb-true s limit q)
    by false q = let z = g (ltb-false s limit q) in omega (arith, ltb-false s limit q)

-- .. and so through a schedule
module _
    (t b l : List ℕ) (long : 1456 ≤ length b) (lent : loan_words (opened_block t b) ≤ length l) (calls : List ℕ)
    (words : (i : ℕ) → FitsWords (request_in calls i).inputs) (called : AllCalled (opened t).card calls)
  where
    abbrev o₂ : Card
    o₂ = (opened t).card

    abbrev first : Memory
    first = opened_memory t b l

    abbrev reached : List Entry → Memory
    reached es = memory_of t b l (handing first es)

    abbrev at : List Entry → Counts → Sweep
    at es k = record { block = (reached es).block; loan = (reached es).loan; counts = k }

    -- what a sweep s that stands where the entries es lead, with the counts k, comes to
    pub record Accepts (es : List Entry) (k : Counts) (s : Sweep) (schedule : List ℕ) : Type 0 where
      pub busy : AllBusy (run o₂ (es ++ entries calls s schedule)).card
      pub accepted : (swept calls s schedule).counts.accepted ≡ k.accepted + min (length schedule) (o₂.limit - (run o₂ es).card.steps)

    pub accepts :
        (schedule : List ℕ) → Within o₂.process_count schedule → (es : List Entry) → AllFit (handing first es) → AllBusy (run o₂ es).card → (k : Counts) →
        Accepts es k (at es k) schedule
    unfolding Within swept entries
    accepts [] w es fits busy k = record { busy = rw (append-nil es) busy; accepted = omega arith }
    accepts (i ∷ is) w es fits busy k =
        let s = at es k in
        let x = answer_to (reached es).block (reached es).loan i in
        let made = entries calls s (i ∷ []) in
        let e : x ≡ (step (run o₂ es).card i).answer = answer_is t b l long lent es fits i in
        let q : reached (es ++ made) ≡ memory_in (sweep_step calls s i) = remember_append es made first ∙ one_remembers calls s i in
        let next : at (es ++ made) (with_answer k x) ≡ sweep_step calls s i = λ j. record { block = (q j).block; loan = (q j).loan; counts = with_answer k x } in
        let still : AllBusy (run o₂ (es ++ made)).card =
        subst (λ (y : Answer). AllBusy (run o₂ (es ++ (Entry.Step i ∷ follows (is_again calls i y) (call_of calls i) []))).card) (sym e)
        (stays_busy t es calls called busy i w.0) in
        let rest = accepts is w.1 (es ++ made) (fit_append es made first fits (entries_fit calls words (i ∷ []) s)) still (with_answer k x) in
        let there = subst (λ (z : Sweep). Accepts (es ++ made) (with_answer k x) z is) next rest in
        let limit : (run o₂ es).card.limit ≡ o₂.limit = ap (λ (z : Contents). z.limit) (opened_consistent t es).text in
        let a = ap (λ (y : Answer). (with_answer k y).accepted) e in
        let list : (es ++ made) ++ entries calls (sweep_step calls s i) is ≡ es ++ entries calls s (i ∷ is) =
        append_assoc es made (entries calls (sweep_step calls s i) is) ∙ sym (ap (λ (z : List Entry). es ++ z) (entries_more calls s i is)) in
        record {
          busy = subst (λ (z : List Entry). AllBusy (run o₂ z).card) list there.busy;
          accepted =
              tally (length is) o₂.limit (run o₂ es).card.steps (run o₂ (es ++ made)).card.steps k.accepted (with_answer k x).accepted
              (swept calls (sweep_step calls s i) is).counts.accepted (one_step t b l long lent calls words es fits k i)
              (λ h. a ∙ counts_below t es calls called busy i w.0 k (omega arith)) (λ h. a ∙ counts_at t es calls called busy i w.0 k (omega arith))
              there.accepted;
        }

    -- after entries that leave every process with an operation under way, a sweep accepts all steps of its schedule up to the limit
    pub only_limit :
        (es : List Entry) → AllFit (handing first es) → AllBusy (run o₂ es).card → (schedule : List ℕ) → Within o₂.process_count schedule →
        (swept calls (before t b l es) schedule).counts.accepted ≡ min (length schedule) (o₂.limit - (run o₂ es).card.steps)
    only_limit es fits busy schedule w = (accepts schedule w es fits busy none).accepted ∙ zero-add _
