-- Steps that run on: an operation that is far from its return goes one step nearer at most, and so the text of a card on which nothing can return is that of its idle
-- processes alone.
use Prim.Native.Nat.{ℕ, zero, suc, ◌+◌, ◌-◌, ◌%◌, ◌<◌, ◌≤◌}
use mathlib.Core.Path.{◌≡◌, refl, sym, subst, ap, ◌∙◌}
use mathlib.Core.Bool.{Bool, true, false, ◌||◌, false≢true}
use mathlib.Core.Logic.{◌≢◌, ⊎_elim}
use mathlib.Core.List.{List, [], ◌++◌}
use native.Mathlib.Omega.{arith}
use native.Mathlib.Decide.{ℕ_discrete}
use lib.ListN.{length}
use lib.Dec.{ltb, leb}
use borrow.Author.Tests.{lt-ltb, ltb-true, leb-true}
use Rattle.grammar.specs.Writing.{decimal}
use Rattle.construction.specs.declared.{accesses.Label.Label, accesses.Control.Control, card.Card.Card, answers.Answer.Answer, answers.Answered.Answered}
use Rattle.construction.specs.declared.{texts.Contents.Contents}
use Rattle.construction.specs.declared.accesses.Label.TheVariants.{Idle, P1, P3, P5, P7, P10, C2, C4, P13, P14, P16, H21, H36, P19, P20, P21, P22, F1, F3, P6}
use Rattle.construction.specs.Answers.{is_refused}
use Rattle.construction.specs.Parts.{local_at}
use Rattle.construction.specs.Machine.{access_of, advance}
use Rattle.construction.specs.Requests.{is_idle, is_busy, step}
use Rattle.construction.proofs.Basics.{true_or_false, true_false, and_true}
use Rattle.construction.proofs.Invariant.NextPlaces.{Leads, leads}
use Rattle.construction.proofs.Statements.OneAccess.{one_access}
use Rattle.construction.proofs.Statements.Refusals.{step_accepted}
use Rattle.executions.specs.Schedules.{is_quiet}
use Rattle.executions.specs.Listings.{answer_text, branch_text, branches_text, text_after}
use Rattle.executions.proofs.Branches.{accepted_busy, quiet_idle}
use mir.Val.{Val}
use denote.Laws.{Is}
use denote.Struct.Declared.{row}
use Rattle.construction.specs.contracts.card.Card.{the_type}
use Rattle.listing.specs.Runs.{distance, place_at, are_far, runs_on, run_text, runs_from, runs_text}

-- a step brings a return at most one step nearer
closer : (p : Label) (exit : Bool) → is_idle p ≡ false → Leads (λ l. distance p ≤ suc (distance l)) (access_of p exit)
unfolding access_of
closer Idle exit h = absurd (false≢true (sym h))
closer P1 exit h = (omega arith, omega arith)
closer P3 exit h = omega arith
closer P5 true h = omega arith
closer P5 false h = (omega arith, omega arith)
closer P7 exit h = (omega arith, omega arith, omega arith)
closer P10 exit h = (omega arith, omega arith)
closer C2 exit h = (omega arith, omega arith)
closer C4 exit h = (omega arith, omega arith, omega arith)
closer P13 exit h = omega arith
closer P14 exit h = (omega arith, omega arith)
closer P16 exit h = (omega arith, omega arith, omega arith, omega arith)
closer H21 exit h = (omega arith, omega arith, omega arith)
closer H36 exit h = (omega arith, omega arith)
closer P19 exit h = omega arith
closer P20 exit h = omega arith
closer P21 exit h = omega arith
closer P22 exit h = (omega arith, omega arith, omega arith)
closer F1 exit h = (omega arith, omega arith)
closer F3 exit h = omega arith
closer P6 exit h = omega arith

far_busy : (p : Label) → 0 < distance p → is_idle p ≡ false
far_busy Idle h = absurd (omega arith)
far_busy P1 h = refl
far_busy P3 h = refl
far_busy P5 h = refl
far_busy P7 h = refl
far_busy P10 h = refl
far_busy C2 h = refl
far_busy C4 h = refl
far_busy P13 h = refl
far_busy P14 h = refl
far_busy P16 h = refl
far_busy H21 h = refl
far_busy H36 h = refl
far_busy P19 h = refl
far_busy P20 h = refl
far_busy P21 h = refl
far_busy P22 h = refl
far_busy F1 h = refl
far_busy F3 h = refl
far_busy P6 h = refl

-- a card whose processes can make n steps within the limit
pub record Steady (n : ℕ) (c : Card) : Type 0 where
  pub few : c.process_count ≤ 8
  pub controls : length c.controls ≡ 8
  pub limit : c.limit < 18446744073709551616
  pub steps : c.steps + n ≤ c.limit

-- no process can return with n steps
abbrev pub Far : ℕ → Card → Type 0
Far n c = (i : ℕ) → i < c.process_count → is_idle (place_at c.controls i) ≡ false → n < distance (place_at c.controls i)

-- one step of a process that cannot return with it nor with n more
module _ (n : ℕ) (c : Card) (k : ℕ) (S : Steady (suc n) c) (lt : k < c.process_count) (far : suc n < distance (place_at c.controls k)) where
  abbrev d : Card
  d = advance c k

  here : is_idle (place_at c.controls k) ≡ false
  here = far_busy (place_at c.controls k) (omega arith)

  nearer : n < distance (place_at d.controls k)
  unfolding advance
  nearer =
      let h : distance (place_at c.controls k) ≤ suc (distance (place_at d.controls k)) =
      leads (λ l. distance (place_at c.controls k) ≤ suc (distance l)) c k (omega (arith, S.few, S.controls))
      (access_of (place_at c.controls k) (local_at c k).exit)
      (closer (place_at c.controls k) (local_at c k).exit here) in
      omega (arith, h)

  there : is_idle (place_at d.controls k) ≡ false
  there = far_busy (place_at d.controls k) (omega (arith, nearer))

  taken : step c k ≡ record { card = d; answer = Answer.Run }
  taken =
      step_accepted c k (rw (lt-ltb k c.process_count lt, lt-ltb k 8 (omega (arith, S.few)))) (rw here) (omega (arith, S.steps))
      ∙ ap (λ (a : Answer). record { card = d; answer = a }) (rw there)

  same_place : (i : ℕ) → i ≢ k → place_at c.controls i ≡ place_at d.controls i
  same_place i ne = ap (λ (t : Control). t.place) ((one_access c k).others i ne).0.elements

  same_idle : (i : ℕ) → is_idle (place_at d.controls i) ≡ is_idle (place_at c.controls i)
  same_idle i = go (ℕ_discrete i k)
    where
      go : Dec (i ≡ k) → is_idle (place_at d.controls i) ≡ is_idle (place_at c.controls i)
      go (yes e) = rw e (there ∙ sym here)
      go (no ne) = sym (ap is_idle (same_place i ne))

  processes : d.process_count ≡ c.process_count
  processes = sym (ap (λ (x : Contents). x.process_count) (one_access c k).text.0)

  pub steady_next : Steady n d
  steady_next =
      let l : d.limit ≡ c.limit = sym (ap (λ (x : Contents). x.limit) (one_access c k).text.0) in
      let s : d.steps ≡ (c.steps + 1) % 18446744073709551616 = (one_access c k).steps in
      let t : length c.controls ≡ length d.controls = ((one_access c k).others (suc k) (λ e. omega arith)).0.lengths in
      record {
        few = omega (arith, processes, S.few);
        controls = sym t ∙ S.controls;
        limit = omega (arith, l, S.limit);
        steps = omega (arith, l, s, S.steps, S.limit);
      }

  pub far_next : Far n c → Far n d
  far_next F i h b = go (ℕ_discrete i k)
    where
      go : Dec (i ≡ k) → n < distance (place_at d.controls i)
      go (yes e) = rw e nearer
      go (no ne) =
          subst (λ (p : Label). n < distance p) (same_place i ne)
          (F i (omega (arith, processes)) (ap is_idle (same_place i ne) ∙ b))

  pub busy_next : is_quiet d d.process_count ≡ false
  busy_next =
      ⊎_elim (λ (q : is_quiet d d.process_count ≡ true).
      absurd (true_false (is_busy d k) (rw there) (quiet_idle d d.process_count k q (omega (arith, processes)))))
      (λ q. q) (true_or_false (is_quiet d d.process_count))

-- the text of a card is that of its idle processes
runs_from_same :
    (l m : List Control) → ((i : ℕ) → is_idle (place_at l i) ≡ is_idle (place_at m i)) → (x y : List ℕ) (f g : List ℕ → List ℕ → List ℕ) →
    ((z w : List ℕ) → f z w ≡ g z w) →
    (q k : ℕ) → runs_from l x y f q k ≡ runs_from m x y g q k
unfolding runs_from
runs_from_same l m e x y f g h zero k = refl
runs_from_same l m e x y f g h (suc q) k =
    rw (e k, h (x ++ decimal k) (y ++ answer_text Answer.Run), runs_from_same l m e x y f g h q (suc k))

runs_same : (n : ℕ) (l m : List Control) → ((i : ℕ) → is_idle (place_at l i) ≡ is_idle (place_at m i)) → (count : ℕ) (x y : List ℕ) →
    runs_text n l count x y ≡ runs_text n m count x y
unfolding runs_text
runs_same zero l m e count x y = refl
runs_same (suc n) l m e count x y =
    runs_from_same l m e x y (λ z w. runs_text n l count z w) (λ z w. runs_text n m count z w) (λ z w. runs_same n l m e count z w) count 0

abbrev Known : ℕ → Type 0
Known n = (d : Card) (z w : List ℕ) → Steady n d → Far n d → is_quiet d d.process_count ≡ false →
    text_after n d z w ≡ runs_text n d.controls d.process_count z w

branch_runs :
    (n : ℕ) → Known n → (c : Card) (k : ℕ) → Steady (suc n) c → k < c.process_count → suc n < distance (place_at c.controls k) → Far n c → (x y : List ℕ) →
    branch_text k (step c k) x y (λ d z w. text_after n d z w) ≡ runs_text n c.controls c.process_count (x ++ decimal k) (y ++ answer_text Answer.Run)
branch_runs n known c k S lt far F x y =
    ap (λ (r : Answered). branch_text k r x y (λ d z w. text_after n d z w)) (taken n c k S lt far)
    ∙ known (advance c k) (x ++ decimal k) (y ++ answer_text Answer.Run) (steady_next n c k S lt far) (far_next n c k S lt far F) (busy_next n c k S lt far)
    ∙ ap (λ (p : ℕ). runs_text n (advance c k).controls p (x ++ decimal k) (y ++ answer_text Answer.Run)) (processes n c k S lt far)
    ∙ runs_same n (advance c k).controls c.controls (same_idle n c k S lt far) c.process_count (x ++ decimal k) (y ++ answer_text Answer.Run)

-- an idle process begins nothing
idle_branch : (c : Card) (k : ℕ) (x y : List ℕ) (rest : Card → List ℕ → List ℕ → List ℕ) → is_idle (place_at c.controls k) ≡ true →
    branch_text k (step c k) x y rest ≡ []
idle_branch c k x y rest h =
    ⊎_elim (λ (e : is_refused (step c k).answer ≡ true). rw e)
    (λ (e : is_refused (step c k).answer ≡ false). absurd (true_false (is_busy c k) (accepted_busy c k e).1 (rw h)))
    (true_or_false (is_refused (step c k).answer))

module _ (n : ℕ) (known : Known n) (c : Card) (S : Steady (suc n) c) (F : Far (suc n) c) (x y : List ℕ) where
  less : Far n c
  less i h b = omega (arith, F i h b)

  one_runs : (k : ℕ) → k < c.process_count → branch_text k (step c k) x y (λ d z w. text_after n d z w) ≡ run_text c.controls k x y
      (λ z w. runs_text n c.controls c.process_count z w)
  one_runs k lt =
      ⊎_elim (λ (e : is_idle (place_at c.controls k) ≡ true). idle_branch c k x y (λ d z w. text_after n d z w) e ∙ sym (rw e))
      (λ (e : is_idle (place_at c.controls k) ≡ false). branch_runs n known c k S lt (F k lt e) less x y ∙ sym (rw e))
      (true_or_false (is_idle (place_at c.controls k)))

  all_run : (m k : ℕ) → k + m ≤ c.process_count → branches_text c x y (λ d z w. text_after n d z w) m k ≡ runs_from c.controls x y
      (λ z w. runs_text n c.controls c.process_count z w) m k
  unfolding branches_text runs_from
  all_run zero k h = refl
  all_run (suc m) k h = rw (one_runs k (omega arith), all_run m (suc k) (omega arith))

runs_text_lem : (n : ℕ) → Known n
unfolding text_after runs_text
runs_text_lem zero c x y S F q = refl
runs_text_lem (suc n) c x y S F q = rw q (all_run n (runs_text_lem n) c S F x y c.process_count 0 (omega arith))

-- the limit of a card that code holds
pub limit_fits : (c : Card) (vs : List Val) → Is (row the_type) c vs → c.limit < 18446744073709551616
limit_fits c vs p = omega (arith, p.1.1.1.0)

-- the test of code
far_all : (n : ℕ) (l : List Control) (m : ℕ) → are_far n l m ≡ true → (i : ℕ) → i < m → is_idle (place_at l i) ≡ false → n < distance (place_at l i)
unfolding are_far
far_all n l zero e i h b = absurd (omega arith)
far_all n l (suc m) e i h b = go (ℕ_discrete i m) (λ g. far_all n l m parts.1 i g b)
  where
    parts : ((is_idle (place_at l m) || ltb n (distance (place_at l m))) ≡ true) × (are_far n l m ≡ true)
    parts = and_true (is_idle (place_at l m) || ltb n (distance (place_at l m))) (are_far n l m) e

    last : is_idle (place_at l m) ≡ false → n < distance (place_at l m)
    last f = ltb-true n (distance (place_at l m)) (subst (λ (a : Bool). (a || ltb n (distance (place_at l m))) ≡ true) f parts.0)

    go : Dec (i ≡ m) → (i < m → n < distance (place_at l i)) → n < distance (place_at l i)
    go (yes f) below = subst (λ (j : ℕ). n < distance (place_at l j)) (sym f) (last (subst (λ (j : ℕ). is_idle (place_at l j) ≡ false) f b))
    go (no ne) below = below (omega arith)

pub runs_branch :
    (left : ℕ) (c : Card) (k : ℕ) → 0 < left → c.process_count ≤ 8 → length c.controls ≡ 8 → c.limit < 18446744073709551616 → k < c.process_count →
    {t : Bool} →
    t ≡ runs_on left c.controls c.process_count k c.steps c.limit → t ≡ true → (x y : List ℕ) →
    branch_text k (step c k) x y (λ d z w. text_after (left - 1) d z w) ≡ run_text c.controls k x y
    (λ z w. runs_text (left - 1) c.controls c.process_count z w)
unfolding runs_on
runs_branch zero c k some few controls limit lt e f x y = absurd (omega arith)
runs_branch (suc n) c k some few controls limit lt {t} e f x y =
    let m : suc n - 1 ≡ n = omega arith in
    let h = and_true (ltb (suc n) (distance (place_at c.controls k))) _ (sym e ∙ f) in
    let g = and_true (are_far (suc n - 1) c.controls c.process_count) (leb (c.steps + suc n) c.limit) h.1 in
    let far : suc n < distance (place_at c.controls k) = ltb-true (suc n) (distance (place_at c.controls k)) h.0 in
    let all : are_far n c.controls c.process_count ≡ true = subst (λ (i : ℕ). are_far i c.controls c.process_count ≡ true) m g.0 in
    let S : Steady (suc n) c = record { few = few; controls = controls; limit = limit; steps = leb-true (c.steps + suc n) c.limit g.1 } in
    let idle : is_idle (place_at c.controls k) ≡ false = far_busy (place_at c.controls k) (omega (arith, far)) in
    rw (m, idle) (branch_runs n (runs_text_lem n) c k S lt far (far_all n c.controls c.process_count all) x y)
