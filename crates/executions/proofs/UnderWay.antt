-- 'Under way' as demand 3 has it, by the notes of the observer, and as the card has it, by the place of a process: the same after every list of entries.
use Prim.Native.Nat.{ℕ, ◌<◌}
use mathlib.Core.Path.{◌≡◌, refl, sym, subst, ap, ◌∙◌}
use mathlib.Core.Bool.{true, false, not, false≢true}
use mathlib.Core.Logic.{◌≢◌}
use mathlib.Core.List.{List, [], ◌∷◌}
use native.Mathlib.Omega.{arith}
use native.Mathlib.Decide.{ℕ_discrete}
use lib.ListN.{length, get_or}
use lib.Dec.{eqb}
use lib.Seq.{get_or-set_same, get_or-set_other, set-get_or}
use Rattle.construction.specs.declared.{cells.Flag.Flag, cells.Announcement.Announcement, accesses.Control.Control, card.Card.Card, answers.Answered.Answered}
use Rattle.construction.specs.declared.{texts.Contents.Contents}
use Rattle.construction.specs.declared.cells.Flag.TheVariants.{Done, Active, Exit}
use Rattle.construction.specs.declared.accesses.Label.TheVariants.{P1}
use Rattle.construction.specs.Parts.{idle_control, contents_of, local_at, with_local}
use Rattle.construction.specs.Machine.{advance}
use Rattle.construction.specs.Requests.{is_idle, is_busy, answer_of, returned, invoked}
use Rattle.construction.specs.Changes.{change_read, changed}
use Rattle.construction.specs.Opening.{opened}
use Rattle.construction.specs.History.{Entry, Steps, Invocation, Response, Return, Event, event_of, History, has_called, latest, finishing, with_finish}
use Rattle.construction.specs.History.{with_finishes, with_response, with_entry, Observation, observe, run}
use Rattle.construction.specs.Linearizability.{has_returned, UnderWay}
use Rattle.construction.proofs.Basics.{true_false, on_test}
use Rattle.construction.proofs.Observing.Histories.{chosen, passed}
use Rattle.construction.proofs.Observing.Tracking.{under_way_lem}
use Rattle.construction.proofs.Observing.Outcomes.{Outcome, outcome}
use Rattle.construction.proofs.Observing.Consistency.{Consistent}
use Rattle.construction.proofs.Observing.Runs.{opened_consistent, opened_keeps}
use Rattle.construction.proofs.Statements.OneAccess.{one_access}

-- by the card: process i is one of the card's and is not idle
pub record BusyIn (p : ℕ) (c : Card) (i : ℕ) : Type 0 where
  pub inside : i < p
  pub busy : is_busy c i ≡ true

-- what is under way by the notes is so by the card
abbrev Notes : Card → Observation → Type 0
Notes o m = (i : ℕ) → UnderWay m.history i → BusyIn o.process_count m.card i

-- finishing an operation returns none and calls none
finished_same : (o : Card) (gate : ℕ) (is : List ℕ) (s : History) →
    ((with_finishes o gate is s).operations ≡ s.operations) × ((with_finishes o gate is s).returns ≡ s.returns)
unfolding with_finishes
finished_same o gate [] s = (refl, refl)
finished_same o gate (i ∷ is) s = finished_same o gate is (with_finish o gate i s)

carried : (s t : History) (i : ℕ) → t.operations ≡ s.operations → t.returns ≡ s.returns → UnderWay t i → UnderWay s i
carried s t i e f U =
    record {
      called = ap (λ (l : List Invocation). has_called l i) (sym e) ∙ U.called;
      unreturned = ap (λ (l : List Invocation). has_returned (latest l i) s.returns) (sym e)
          ∙ (ap (λ (l : List Response). has_returned (latest t.operations i) l) (sym f) ∙ U.unreturned);
    }

-- a call of another process, and a return of another operation
called_other : (x : Invocation) (s : History) (i : ℕ) → x.process ≢ i →
    UnderWay (record { operations = x ∷ s.operations; order = s.order; returns = s.returns; changes = s.changes; words = s.words }) i → UnderWay s i
unfolding has_called latest
called_other x s i ne U =
    record {
      called = sym (passed x.process i true (has_called s.operations i) ne) ∙ U.called;
      unreturned = ap (λ (k : ℕ). has_returned k s.returns) (sym (passed x.process i (length s.operations) (latest s.operations i) ne)) ∙
          U.unreturned;
    }

still : (r : Response) (rs : List Response) (k : ℕ) → has_returned k (r ∷ rs) ≡ false → has_returned k rs ≡ false
unfolding has_returned
still r rs k h =
    on_test (λ b. b ≡ false → has_returned k rs ≡ false) (eqb r.operation k) (λ _ e. absurd (false≢true (sym e))) (λ _ e. e) h

-- an entry keeps this
module _ (o : Card) (m : Observation) (O : Consistent o m) (q : Notes o m) where
  abbrev c : Card
  c = m.card

  -- the notes before the answer is noted
  abbrev noticed : Card → History
  noticed d = with_finishes o c.gate.seq (finishing c d) m.history

  before : (d : Card) (i : ℕ) → UnderWay (noticed d) i → UnderWay m.history i
  before d i U =
      let h = finished_same o c.gate.seq (finishing c d) m.history in
      carried m.history (noticed d) i h.0 h.1 U

  processes_is : c.process_count ≡ o.process_count
  processes_is = ap (λ (x : Contents). x.process_count) O.text

  has_control : {i : ℕ} → i < c.process_count → i < length c.controls
  has_control lt = omega (arith, O.inv.sizes.controls, O.inv.good.fits.few)

  abbrev Next : Entry → Answered → Type 0
  Next e r = (i : ℕ) → UnderWay (with_entry o (noticed r.card) e (event_of r.answer)) i → BusyIn o.process_count r.card i

  -- an entry that notes nothing and leaves the places
  calm : (d : Card) (i : ℕ) → is_busy d i ≡ is_busy c i → UnderWay (noticed d) i → BusyIn o.process_count d i
  calm d i e U = let B = q i (before d i U) in record { inside = B.inside; busy = e ∙ B.busy }

  quiet_entry : (d : Card) (e : Entry) → with_entry o (noticed d) e Event.none ≡ noticed d
  quiet_entry d (Entry.Call i k inputs) = refl
  quiet_entry d (Entry.Exit i) = refl
  quiet_entry d (Entry.Step i) = refl
  quiet_entry d (Entry.Trace i) = refl
  quiet_entry d (Entry.Read v) = refl
  quiet_entry d (Entry.Change k from t) = refl

  step_entry : (d : Card) (e : Entry) (i : ℕ) (v : Event) → Steps e i → with_entry o (noticed d) e v ≡ with_response (noticed d) i v
  step_entry d e i v Steps.by_step = refl
  step_entry d e i v Steps.by_trace = refl

  -- a return of the operation of process i
  module _ (i : ℕ) where
    abbrev d : Card
    d = advance c i

    others : (j : ℕ) → j ≢ i → is_busy d j ≡ is_busy c j
    others j ne = ap (λ (t : Control). not (is_idle t.place)) (sym ((one_access c i).others j ne).0.elements)

    after_return : (v : Return) (j : ℕ) → UnderWay (with_response (noticed d) i (Event.returned v)) j → BusyIn o.process_count d j
    unfolding has_returned
    after_return v j U = go (ℕ_discrete j i)
      where
        r : Response
        r = record { operation = latest (noticed d).operations i; return = v }

        go : Dec (j ≡ i) → BusyIn o.process_count d j
        go (yes e) =
            absurd (true_false (has_returned (latest (noticed d).operations i) (r ∷ (noticed d).returns))
            (chosen (latest (noticed d).operations i) (latest (noticed d).operations i) true
            (has_returned (latest (noticed d).operations i) (noticed d).returns) refl)
            (subst (λ (k : ℕ). has_returned (latest (noticed d).operations k) (r ∷ (noticed d).returns) ≡ false) e U.unreturned))
        go (no ne) =
            calm d j (others j ne)
            (record { called = U.called; unreturned = still r (noticed d).returns (latest (noticed d).operations j) U.unreturned })

    after_run : is_idle (local_at d i).control.place ≡ false → (j : ℕ) → UnderWay (noticed d) j → BusyIn o.process_count d j
    after_run f j U = go (ℕ_discrete j i)
      where
        go : Dec (j ≡ i) → BusyIn o.process_count d j
        go (yes e) = record { inside = (q j (before d j U)).inside; busy = rw e (rw f) }
        go (no ne) = calm d j (others j ne) U

    by_flag_lem : (a : Announcement) (f : Flag) (n j : ℕ) → UnderWay (with_response (noticed d) i (event_of (returned a f n))) j → BusyIn o.process_count d j
    by_flag_lem a Done n j U = after_return _ j U
    by_flag_lem a Active n j U = after_return _ j U
    by_flag_lem a Exit n j U = after_return _ j U

    after_step : (j : ℕ) → UnderWay (with_response (noticed d) i (event_of (answer_of (local_at d i)))) j → BusyIn o.process_count d j
    after_step j =
        on_test (λ a. UnderWay (with_response (noticed d) i (event_of a)) j → BusyIn o.process_count d j) (is_idle (local_at d i).control.place)
        (λ _. by_flag_lem (local_at d i).announcement (local_at d i).announcement.flag (local_at d i).steps j) (λ f. after_run f j)

  next : {e : Entry} {r : Answered} → Outcome c e r → Next e r
  next (Outcome.turned_back e why) i U = calm c i refl (subst (λ (h : History). UnderWay h i) (quiet_entry c e) U)
  next (Outcome.called i k inputs lt f) j U = go (ℕ_discrete j i)
    where
      d : Card
      d = with_local c i (invoked (local_at c i) k inputs)

      go : Dec (j ≡ i) → BusyIn o.process_count d j
      go (yes e) =
          record {
            inside = omega (arith, processes_is);
            busy = rw e
                (ap (λ (t : Control). not (is_idle t.place))
                (get_or-set_same c.controls i (record { place = P1; target = 0 }) idle_control (has_control lt)));
          }
      go (no ne) =
          calm d j (ap (λ (t : Control). not (is_idle t.place)) (get_or-set_other c.controls i j (record { place = P1; target = 0 }) idle_control ne))
          (called_other (record { process = i; program = k; inputs = inputs }) (noticed d) j (λ e. ne (sym e)) U)
  next (Outcome.asked i lt) j U =
      calm _ j (ap (λ (l : List Control). not (is_idle (get_or l j idle_control).place)) (set-get_or c.controls i idle_control)) U
  next (Outcome.stepped {e} i by lt b l) j U = after_step i j (subst (λ (h : History). UnderWay h j) (step_entry (advance c i) e i _ by) U)
  next (Outcome.unaltered k from t why line) i U = calm c i refl U
  next (Outcome.altered k from t _ _ _ _) i U = calm _ i refl (carried (noticed r.card) _ i refl refl U)
    where
      r : Answered
      r = changed c k from (change_read (contents_of c) t).program
  next (Outcome.shown v x) i U = calm c i refl U

  kept : (e : Entry) → Notes o (observe o m e)
  unfolding observe
  kept e = next (outcome c e)

-- both ways, after every list of entries
pub under_way_busy : (t : List ℕ) (es : List Entry) (i : ℕ) → UnderWay (run (opened t).card es).history i →
    BusyIn (opened t).card.process_count (run (opened t).card es).card i
unfolding has_called
under_way_busy t es =
    opened_keeps t (Notes (opened t).card) (λ m O e q. kept (opened t).card m O q e) (λ i U. absurd (false≢true U.called)) es

pub busy_under_way : (t : List ℕ) (es : List Entry) (i : ℕ) → BusyIn (opened t).card.process_count (run (opened t).card es).card i →
    UnderWay (run (opened t).card es).history i
busy_under_way t es i B = under_way_lem ((opened_consistent t es).tracks.own i B.inside B.busy)
