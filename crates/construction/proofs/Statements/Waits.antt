-- Wait freedom (document 02, order 3): for every text and every list of entries, an operation returns within the longest wait.
use Prim.Native.Nat.{ℕ, suc, ◌+◌, ◌%◌, ◌≤◌, ◌<◌}
use mathlib.Core.Path.{◌≡◌, refl, sym, subst, ap, ◌∙◌}
use mathlib.Core.Bool.{Bool, true, false}
use mathlib.Core.List.{List}
use native.Mathlib.Omega.{arith}
use native.Mathlib.Decide.{dec_lt}
use lib.ListN.{get_or, set}
use lib.Seq.{get_or-set_same}
use borrow.Author.Tests.{lt-ltb, le-ltb, not-true}
use Rattle.construction.specs.Types.{Flag, Done, Active, Exit, Announcement, Label, Access, Card, Refusal, LimitReached, Answer, Answered, Contents}
use Rattle.construction.specs.Parts.{local_at, contents_of, announcement_at}
use Rattle.construction.specs.Machine.{access_in, perform, advance}
use Rattle.construction.specs.Requests.{is_process, is_idle, is_busy, returned, step}
use Rattle.construction.specs.Answers.{is_refused}
use Rattle.construction.specs.Opening.{opened}
use Rattle.construction.specs.Weight.{card_weight}
use Rattle.construction.specs.Waits.{wait_of, extra, allowed, TellsAtMost, WaitFree}
use Rattle.construction.specs.History.{Entry, act, Observation, run}
use Rattle.construction.proofs.Basics.{on_test, set_keeps, true_false, clash}
use Rattle.construction.proofs.Observing.Entries.{on_step}
use Rattle.construction.proofs.Observing.Outcomes.{Outcome, outcome}
use Rattle.construction.proofs.Observing.Consistency.{Consistent}
use Rattle.construction.proofs.Invariant.Stages.{stage, is_idle_lem}
use Rattle.construction.proofs.Waiting.Courses.{CourseAt}
use Rattle.construction.proofs.Waiting.Steps.{left}
use Rattle.construction.proofs.Waiting.Cards.{Waits, AllWait, wait_step}
use Rattle.construction.proofs.Waiting.Entries.{here, opened_waits}
use Rattle.construction.proofs.Statements.ExitRequests.{step_exits}
use Rattle.construction.proofs.Statements.Tracing.{answers}
use Rattle.construction.proofs.Observing.Runs.{opened_consistent}
use Rattle.construction.proofs.Invariant.World.{frame_of}

-- a step counts as one own step of its process
step_counts : (a : Access) (c : Card) (i : ℕ) → (perform a c i).card.counts ≡ set c.counts i (((local_at c i).steps + 1) % 18446744073709551616)
unfolding perform
step_counts Access.None c i = refl
step_counts (Access.Gate a) c i = refl
step_counts (Access.Announcement a) c i = refl
step_counts Access.Help c i = refl
step_counts Access.Note c i = refl
step_counts Access.Write c i = refl

-- what follows for a process of the card
module _ (o : Card) (m : Observation) (O : Consistent o m) (W : AllWait (contents_of o) m.card) (i : ℕ) (lo : i < o.process_count) where
  abbrev c : Card
  c = m.card

  lt : i < c.process_count
  lt = subst (λ (x : Contents). i < x.process_count) (sym O.text) lo

  few : i < 8
  few = let fits = O.inv.good.fits in omega (arith, lt, fits.few)

  -- own steps that are within the wait of the card are within that of the opened one
  abbrev Within : ℕ → Type 0
  Within n = n ≤ allowed (contents_of o) (local_at c i)

  under_way_lem : is_busy c i ≡ true → (local_at c i).steps < allowed (contents_of o) (local_at c i)
  under_way_lem b =
      subst (λ (x : Contents). (local_at c i).steps < allowed x (local_at c i)) O.text
      (left (frame_of c O.world) (card_weight (contents_of c)) O.inv.texts.light O.world i c.gate (announcement_at c i) X.tally (local_at c i)
      (local_at c i).control.place (not-true _ b)
      (O.inv.locs i lt) X.course)
    where
      X : Waits (contents_of c) c i
      X = here o m O W i lt

  -- the count after a step that is accepted, and the exit request
  counts : (local_at (advance c i) i).steps ≡ suc (local_at c i).steps
  unfolding advance
  counts =
      ap (λ (l : List ℕ). get_or l i 0) (step_counts (access_in (local_at c i)) c i)
      ∙ (get_or-set_same c.counts i (((local_at c i).steps + 1) % 18446744073709551616) 0 (omega (arith, few, O.inv.sizes.counts))
      ∙ omega (arith, O.inv.counts i, O.inv.limited, O.inv.capped))

  asks : (local_at (advance c i) i).exit ≡ (local_at c i).exit
  unfolding advance
  asks = ap (λ (l : List Bool). get_or l i false) (step_exits (access_in (local_at c i)) c i)

  -- an operation that returns
  returns_by : Within (local_at (advance c i) i).steps → (a : Announcement) (f : Flag) →
      TellsAtMost (allowed (contents_of o) (local_at c i)) (returned a f (local_at (advance c i) i).steps)
  returns_by h a Done = h
  returns_by h a Active = h
  returns_by h a Exit = h

  returns_within : TellsAtMost (allowed (contents_of o) (local_at c i)) (step c i).answer
  returns_within =
      on_step (λ r. TellsAtMost (allowed (contents_of o) (local_at c i)) r.answer) c (λ _. tt) i
      (λ l b h. on_test (TellsAtMost (allowed (contents_of o) (local_at c i))) (is_idle (local_at (advance c i) i).control.place)
      (λ e. returns_by (idle l b h e) (local_at (advance c i) i).announcement (local_at (advance c i) i).announcement.flag) (λ _. tt))
    where
      idle :
          i < c.process_count → is_busy c i ≡ true → c.steps < c.limit → is_idle (local_at (advance c i) i).control.place ≡ true →
          Within (local_at (advance c i) i).steps
      idle l b h e =
          let X : Waits (contents_of c) (advance c i) i = wait_step O.inv (here o m O W) l b h i l in
          let q : (local_at (advance c i) i).steps ≤ allowed (contents_of c) (local_at (advance c i) i) =
          subst
          (λ (p : Label).
          CourseAt p c.process_count (card_weight (contents_of c)) (advance c i).gate (announcement_at (advance c i) i) X.tally (local_at (advance c i) i))
          (is_idle_lem (stage (local_at (advance c i) i).control.place) e) X.course in
          subst (λ (x : Contents). (local_at (advance c i) i).steps ≤ allowed x (local_at c i)) O.text
          (subst (λ (x : Bool). (local_at (advance c i) i).steps ≤ wait_of (contents_of c) + extra x) asks q)

  -- a step of a process under way that is refused
  refused_by_lem : (why : Refusal) → is_busy c i ≡ true → (step c i).answer ≡ Answer.Refused why → (why ≡ LimitReached) × (o.limit ≤ c.steps)
  unfolding step
  refused_by_lem why b e = go (dec_lt c.steps c.limit)
    where
      here_is : is_process c i ≡ true
      here_is = rw (lt-ltb i c.process_count lt, lt-ltb i 8 few) refl

      full : c.limit ≤ c.steps → Answer.Refused LimitReached ≡ Answer.Refused why → (why ≡ LimitReached) × (o.limit ≤ c.steps)
      full h z = (cc, subst (λ (x : Contents). x.limit ≤ c.steps) O.text h)

      go : Dec (c.steps < c.limit) → (why ≡ LimitReached) × (o.limit ≤ c.steps)
      go (yes h) = absurd (true_false _ (ap is_refused (rw (here_is, b, lt-ltb c.steps c.limit h) at e)) (answers (local_at (advance c i) i)))
      go (no h) = full (omega arith) (rw (here_is, b, le-ltb c.steps c.limit (omega arith)) at e)

  counted_by : (step c i).answer ≡ Answer.Run → (local_at (step c i).card i).steps ≡ suc (local_at c i).steps
  counted_by =
      on_step (λ r. r.answer ≡ Answer.Run → (local_at r.card i).steps ≡ suc (local_at c i).steps) c (λ why e. clash (cc)) i (λ _ _ _ _. counts)

  kept_by : (e : Entry) → is_busy c i ≡ true → (local_at c i).steps ≤ (local_at (act c e).card i).steps
  unfolding advance
  kept_by e b = go (outcome c e)
    where
      Kept : Card → Type 0
      Kept d = (local_at c i).steps ≤ (local_at d i).steps

      stays : (j x : ℕ) → (i ≡ j → (local_at c i).steps ≤ x) → (local_at c i).steps ≤ get_or (set c.counts j x) i 0
      stays j x f = set_keeps (λ n. (local_at c i).steps ≤ n) c.counts j i x 0 f (omega arith)

      go : {e : Entry} {r : Answered} → Outcome c e r → Kept r.card
      go (Outcome.turned_back e why) = omega arith
      go (Outcome.called j k inputs l f) =
          stays j 0 (λ z. absurd (true_false _ b (subst (λ (n : ℕ). is_busy c n ≡ false) (sym z) f)))
      go (Outcome.asked j l) = stays j (local_at c j).steps (λ z. subst (λ (n : ℕ). (local_at c i).steps ≤ (local_at c n).steps) z (omega arith))
      go (Outcome.stepped j y l f h) =
          subst (λ (s : List ℕ). (local_at c i).steps ≤ get_or s i 0) (sym (step_counts (access_in (local_at c j)) c j))
          (stays j (((local_at c j).steps + 1) % 18446744073709551616)
          (λ z. subst (λ (n : ℕ). (local_at c i).steps ≤ ((local_at c n).steps + 1) % 18446744073709551616) z
          (omega (arith, O.inv.counts i, O.inv.limited, O.inv.capped))))
      go (Outcome.shown v x) = omega arith
      go (Outcome.unaltered k from t why line) = omega arith
      go (Outcome.altered k from t p a l u) = omega arith

-- order 3
pub wait_free : (t : List ℕ) (es : List Entry) → WaitFree (opened t).card es
wait_free t es =
    let o = (opened t).card in
    let m = run o es in
    let O = opened_consistent t es in
    let W = opened_waits t es in
    record {
      under_way = under_way_lem o m O W;
      returns = returns_within o m O W;
      refused = λ i why lt. refused_by_lem o m O W i lt why;
      counted = counted_by o m O W;
      kept = λ i e lt. kept_by o m O W i lt e;
    }
