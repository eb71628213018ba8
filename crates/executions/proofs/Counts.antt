-- Accepted steps are counted, so a step limit of L or more refuses none of the first L steps.
use Prim.Native.Nat.{ℕ, zero, suc, ◌+◌, ◌%◌, ◌≤◌, ◌<◌}
use mathlib.Core.Path.{◌≡◌, refl, sym, subst, ap, ◌∙◌}
use mathlib.Core.Bool.{true, false}
use mathlib.Core.List.{List, [], ◌∷◌}
use native.Mathlib.Omega.{arith}
use lib.ListN.{length, get_or}
use borrow.Author.Tests.{lt-ltb}
use Rattle.executions.specs.declared.Request.{Request}
use Rattle.construction.specs.declared.{cells.Flag.Flag, cells.Announcement.Announcement, card.Card.Card, answers.Answered.Answered, texts.Contents.Contents}
use Rattle.construction.specs.declared.cells.Flag.TheVariants.{Done, Active, Exit}
use Rattle.construction.specs.Answers.{is_refused}
use Rattle.construction.specs.Parts.{Local, local_at}
use Rattle.construction.specs.Machine.{advance}
use Rattle.construction.specs.Requests.{is_process, is_idle, is_busy, returned, answer_of, step}
use Rattle.construction.specs.Opening.{fresh}
use Rattle.construction.specs.History.{Entry, Observation, opening, observe, observe_all}
use Rattle.executions.specs.Schedules.{calls_from, scheduled, step_at, after}
use Rattle.construction.proofs.Basics.{on_test, clash}
use Rattle.construction.proofs.Observing.Entries.{on_call, on_step}
use Rattle.construction.proofs.Statements.OneAccess.{one_access}
use Rattle.construction.proofs.Statements.Refusals.{step_accepted}
use Rattle.executions.proofs.Branches.{Accepts}
use Rattle.executions.proofs.Runs.{start, scheduled_card, accepts}

-- what a step and a call leave of the limit, the processes and the count
abbrev Frame : Card → Card → Type 0
Frame c d = (d.limit ≡ c.limit) × (d.process_count ≡ c.process_count)

step_frame : (c : Card) (i : ℕ) → Frame c (step c i).card
step_frame c i =
    on_step (λ r. Frame c r.card) c (λ why. (refl, refl)) i
    (λ lt b l. let t = sym (one_access c i).text.0 in (ap (λ (x : Contents). x.limit) t, ap (λ (x : Contents). x.process_count) t))

after_frame : (c : Card) (s : List ℕ) → Frame c (after c s)
after_frame c [] = (refl, refl)
after_frame c (i ∷ s) =
    let h = after_frame (step c i).card s in
    let k = step_frame c i in
    (h.0 ∙ k.0, h.1 ∙ k.1)

step_count : (c : Card) (i : ℕ) → is_refused (step c i).answer ≡ false → (step c i).card.steps ≡ (c.steps + 1) % 18446744073709551616
step_count c i =
    on_step (λ r. is_refused r.answer ≡ false → r.card.steps ≡ (c.steps + 1) % 18446744073709551616) c (λ why e. clash (cc)) i
    (λ lt b l e. (one_access c i).steps)

after_count : (c : Card) (s : List ℕ) → Accepts c s → c.steps + length s < 18446744073709551616 → (after c s).steps ≡ c.steps + length s
after_count c [] h lt = omega arith
after_count c (i ∷ s) h lt =
    let e : (step c i).card.steps ≡ c.steps + 1 = step_count c i h.0 ∙ omega arith in
    after_count (step c i).card s h.1 (omega arith) ∙ omega arith

calls_count : (o : Card) (m : Observation) (calls : List Request) (n k : ℕ) →
    Frame m.card (observe_all o m (calls_from calls n k)).card × ((observe_all o m (calls_from calls n k)).card.steps ≡ m.card.steps)
unfolding observe_all observe calls_from
calls_count o m calls zero k = ((refl, refl), refl)
calls_count o m calls (suc n) k =
    let h = calls_count o (observe o m (Entry.Call k (get_or calls k _).program (get_or calls k _).inputs)) calls n (suc k) in
    let g = on_call (λ r. Frame m.card r.card × (r.card.steps ≡ m.card.steps)) m.card (λ why. ((refl, refl), refl)) k
    (get_or calls k _).program (get_or calls k _).inputs (λ _ _ _. ((refl, refl), refl)) in
    ((h.0.0 ∙ g.0.0, h.0.1 ∙ g.0.1), h.1 ∙ g.1)

-- an answer of an accepted step is no refusal
returned_accepted : (a : Announcement) (f : Flag) (n : ℕ) → is_refused (returned a f n) ≡ false
returned_accepted a Done n = refl
returned_accepted a Active n = refl
returned_accepted a Exit n = refl

answer_accepted : (l : Local) → is_refused (answer_of l) ≡ false
answer_accepted l =
    on_test (λ a. is_refused a ≡ false) (is_idle l.control.place) (λ _. returned_accepted l.announcement l.announcement.flag l.steps) (λ _. refl)

-- among the first L steps, one of a process under way is accepted
pub within_limit :
    (x : Contents) (calls : List Request) (L : ℕ) (s : List ℕ) → x.process_count ≤ 8 → L ≤ 16 → L ≤ x.limit → length s < L →
    ((k : ℕ) → k < length s → is_refused (step_at (fresh x) calls s k).answer ≡ false) →
    (i : ℕ) → i < x.process_count → is_busy (scheduled (fresh x) calls s).card i ≡ true →
    is_refused (step (scheduled (fresh x) calls s).card i).answer ≡ false
unfolding fresh
within_limit x calls L s few short fits lt h i inside b =
    let o : Card = fresh x in
    let d : Card = after (start o calls) s in
    let f = calls_count o (opening o) calls o.process_count 0 in
    let g = after_frame (start o calls) s in
    let n : d.steps ≡ (start o calls).steps + length s = after_count (start o calls) s (accepts o calls s h) (omega (arith, f.1)) in
    let p : d.process_count ≡ x.process_count = g.1 ∙ f.0.1 in
    let q : d.limit ≡ x.limit = g.0 ∙ f.0.0 in
    let z : (start o calls).steps ≡ 0 = f.1 in
    let e : is_process d i ≡ true = rw (lt-ltb i d.process_count (omega (arith, p)), lt-ltb i 8 (omega arith)) in
    let u : is_busy d i ≡ true = subst (λ (c : Card). is_busy c i ≡ true) (scheduled_card o calls s) b in
    let r = step_accepted d i e u (omega (arith, n, q, z)) in
    subst (λ (c : Card). is_refused (step c i).answer ≡ false) (sym (scheduled_card o calls s))
    (subst (λ (a : Answered). is_refused a.answer ≡ false) (sym r) (answer_accepted (local_at (advance d i) i)))
