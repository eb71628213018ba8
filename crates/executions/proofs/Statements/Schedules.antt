-- Every short schedule (document 02, order 13): the listing has every schedule, once, in dictionary order, with the answers of its run.
use Prim.Native.Nat.{ℕ, zero, suc, ◌+◌, ◌≤◌, ◌<◌}
use mathlib.Core.Path.{◌≡◌, refl, sym, subst, ap, ◌∙◌}
use mathlib.Core.Bool.{true, false, not, ◌&&◌}
use mathlib.Core.Logic.{◌≢◌, ⊎_elim}
use mathlib.Core.List.{List, ◌++◌}
use native.Mathlib.Omega.{arith}
use native.Mathlib.Nat.{zero-add, add-zero}
use lib.ListN.{length, get_or}
use lib.Dec.{ltb}
use lib.Seq.{get_or-set_other}
use borrow.Author.Tests.{lt-ltb}
use Rattle.executions.specs.declared.Request.{Request}
use Rattle.construction.specs.declared.{accesses.Control.Control, card.Card.Card, answers.Answer.Answer, answers.Answered.Answered, texts.Contents.Contents}
use Rattle.construction.specs.declared.accesses.Label.TheVariants.{P1}
use Rattle.construction.specs.Parts.{idle_control, contents_of, local_at, with_local}
use Rattle.construction.specs.Requests.{is_process, is_program, is_idle, is_busy, call, invoked}
use Rattle.construction.specs.Opening.{fresh, opened}
use Rattle.construction.specs.History.{Entry, run}
use Rattle.construction.specs.Linearizability.{UnderWay, Linearizable}
use Rattle.executions.specs.Listings.{reopened, Callable}
use Rattle.executions.specs.Schedules.{no_request, Execution, execution_at, listing, schedules, Lists, IsSchedule, scheduled, calls_from, calls_of, steps_of}
use Rattle.executions.specs.Schedules.{AllTaken}
use Rattle.construction.proofs.Basics.{true_or_false, true_false, get_or_replicate_same}
use Rattle.executions.proofs.UnderWay.{under_way_busy, busy_under_way}
use Rattle.executions.proofs.Statements.Listings.{as_opened}
use Rattle.construction.proofs.Statements.Refusals.{call_taken}
use Rattle.construction.proofs.Statements.Linearizability.{linearizability}
use Rattle.executions.proofs.Executions.{all_at, stands, sorted_at, before_not}
use Rattle.executions.proofs.Branches.{Listed, all_listed, listing_has, listing_sorted}
use Rattle.executions.proofs.Runs.{start, step_at_lem, told_at_lem, told_length, is_schedule, schedule_accepts, schedule_ends}

pub lists : (o : Card) (calls : List Request) (L : ℕ) → Lists o calls L (schedules o calls L)
unfolding schedules
lists o calls L =
    record {
      sound = λ s S. subst (λ (t : List ℕ). IsSchedule o calls L t) S.there
          (is_schedule o calls L (execution_at executions S.place).schedule (at S.place S.within).accepted (at S.place S.within).ends);
      complete = λ s h. stands s executions (listing_has L c s (schedule_accepts o calls L s h) (schedule_ends o calls L s h));
      ordered = sorted_at executions (listing_sorted L c);
      once = apart;
      counted = λ k lt. ap length (at k lt).answers ∙ told_length o calls c (execution_at executions k).schedule;
      answers = λ k j lk lj.
          ap (λ (l : List Answer). get_or l j Answer.Run) (at k lk).answers
          ∙ told_at_lem o calls c (execution_at executions k).schedule j lj
          ∙ sym (ap (λ (r : Answered). r.answer) (step_at_lem o calls (execution_at executions k).schedule j));
    }
  where
    c : Card
    c = start o calls

    executions : List Execution
    executions = listing L c

    at : (k : ℕ) → k < length executions → Listed L c (execution_at executions k)
    at k lt = all_at (Listed L c) executions k lt (all_listed L c)

    apart : (j k : ℕ) → j < length executions → k < length executions → (execution_at executions j).schedule ≡ (execution_at executions k).schedule → j ≡ k
    apart j k lj lk e =
        let a : j < k → ⊥ = λ l. before_not (sorted_at executions (listing_sorted L c) j k l lk) e in
        let b : k < j → ⊥ = λ l. before_not (sorted_at executions (listing_sorted L c) k j l lj) (sym e) in
        omega (arith, a, b)

-- 'leaves nothing under way', as the card has it and as demand 3 has it
module _ (t : List ℕ) (calls : List Request) (s : List ℕ) where
  pub nothing_noted :
      ((i : ℕ) → i < (opened t).card.process_count → is_busy (scheduled (opened t).card calls s).card i ≡ false) →
      (i : ℕ) → UnderWay (scheduled (opened t).card calls s).history i → ⊥
  nothing_noted h i U =
      let B = under_way_busy t (calls_of (opened t).card calls ++ steps_of s) i U in
      true_false _ B.busy (h i B.inside)

  pub nothing_busy :
      ((i : ℕ) → UnderWay (scheduled (opened t).card calls s).history i → ⊥) →
      (i : ℕ) → i < (opened t).card.process_count → is_busy (scheduled (opened t).card calls s).card i ≡ false
  nothing_busy h i lt =
      ⊎_elim (λ (b : is_busy (scheduled (opened t).card calls s).card i ≡ true).
      absurd (h i (busy_under_way t (calls_of (opened t).card calls ++ steps_of s) i (record { inside = lt; busy = b }))))
      (λ f. f) (true_or_false (is_busy (scheduled (opened t).card calls s).card i))

-- 'taken as it was opened whatever it has done since'
pub lists_after :
    (t : List ℕ) (es : List Entry) (calls : List Request) (L : ℕ) →
    Lists (opened t).card calls L (schedules (reopened (run (opened t).card es).card) calls L)
lists_after t es calls L =
    subst (λ (o : Card). Lists (opened t).card calls L (schedules o calls L)) (sym (as_opened t es)) (lists (opened t).card calls L)

-- 'one call per process made then': each call whose program is there is taken
calls_from_lem :
    (x : Contents) (calls : List Request) → x.process_count ≤ 8 → (m k : ℕ) (c : Card) → contents_of c ≡ x → k + m ≡ x.process_count →
    ((j : ℕ) → k ≤ j → j < k + m → is_program (fresh x) (get_or calls j no_request).program ≡ true) →
    ((j : ℕ) → k ≤ j → is_busy c j ≡ false) → AllTaken c (calls_from calls m k)
unfolding calls_from fresh
calls_from_lem x calls few zero k c t e P I = tt
calls_from_lem x calls few (suc m) k c t e P I =
    let here : call c k y.program y.inputs ≡ record { card = d; answer = Answer.Taken } =
    call_taken c k y.program y.inputs inside there (I k (omega arith)) in (
      ap (λ (r : Answered). r.answer) here,
      subst (λ (r : Answered). AllTaken r.card (calls_from calls m (suc k))) (sym here)
          (calls_from_lem x calls few m (suc k) d t (omega arith) (λ j le lt. P j (omega arith) (omega arith)) idle),
    )
  where
    y : Request
    y = get_or calls k no_request

    d : Card
    d = with_local c k (invoked (local_at c k) y.program y.inputs)

    count : c.process_count ≡ x.process_count
    count = ap (λ (z : Contents). z.process_count) t

    inside : is_process c k ≡ true
    inside = rw (lt-ltb k c.process_count (omega (arith, count)), lt-ltb k 8 (omega arith))

    there : is_program c y.program ≡ true
    there = subst (λ (n : ℕ). ltb y.program n && ltb y.program 8 ≡ true) (sym (ap (λ (z : Contents). z.program_count) t))
        (P k (omega arith) (omega arith))

    idle : (j : ℕ) → suc k ≤ j → is_busy d j ≡ false
    idle j le =
        let ne : j ≢ k = λ z. omega arith in
        ap (λ (t : Control). not (is_idle t.place)) (get_or-set_other c.controls k j (record { place = P1; target = 0 }) idle_control ne) ∙ I j (omega arith)

pub calls_taken :
    (x : Contents) (calls : List Request) → x.process_count ≤ 8 → Callable (fresh x) calls → AllTaken (fresh x) (calls_of (fresh x) calls)
unfolding fresh
calls_taken x calls few h =
    calls_from_lem x calls few x.process_count 0 (fresh x) refl (omega arith) (λ j le lt. h j (omega arith))
    (λ j le. ap (λ (t : Control). not (is_idle t.place)) (get_or_replicate_same 8 j idle_control))

-- one call per process, each with its program and inputs
call_from :
    (calls : List Request) (m k j : ℕ) → j < m →
    get_or (calls_from calls m k) j (Entry.Read 0) ≡ Entry.Call (k + j) (get_or calls (k + j) no_request).program (get_or calls (k + j) no_request).inputs
unfolding calls_from
call_from calls zero k j lt = absurd (omega arith)
call_from calls (suc m) k zero lt = rw (add-zero k)
call_from calls (suc m) k (suc j) lt =
    let e : suc k + j ≡ k + suc j = omega arith in
    subst (λ (i : ℕ). get_or (calls_from calls m (suc k)) j (Entry.Read 0) ≡ Entry.Call i (get_or calls i no_request).program (get_or calls i no_request).inputs) e
    (call_from calls m (suc k) j (omega arith))

calls_length : (calls : List Request) (m k : ℕ) → length (calls_from calls m k) ≡ m
unfolding calls_from
calls_length calls zero k = refl
calls_length calls (suc m) k = ap suc (calls_length calls m (suc k))

pub one_call_each :
    (o : Card) (calls : List Request) →
    (length (calls_of o calls) ≡ o.process_count)
    × ((k : ℕ) → k < o.process_count →
    get_or (calls_of o calls) k (Entry.Read 0) ≡ Entry.Call k (get_or calls k no_request).program (get_or calls k no_request).inputs)
one_call_each o calls = (
  calls_length calls o.process_count 0,
  λ k lt. subst (λ (i : ℕ). get_or (calls_of o calls) k (Entry.Read 0) ≡ Entry.Call i (get_or calls i no_request).program (get_or calls i no_request).inputs)
      (zero-add k) (call_from calls o.process_count 0 k lt),
)

-- demand 3 speaks of every line: it holds of the calls and the steps of each schedule
pub line_linearizable : (t : List ℕ) (calls : List Request) (s : List ℕ) → Linearizable (opened t).card (calls_of (opened t).card calls ++ steps_of s)
line_linearizable t calls s = linearizability t (calls_of (opened t).card calls ++ steps_of s)
