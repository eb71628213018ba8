-- Faults (document 02, order 6; specs/Faults).
use Prim.Native.Nat.{ℕ, ◌<◌}
use mathlib.Core.Path.{◌≡◌, refl, sym, subst, ap, ◌∙◌}
use mathlib.Core.Bool.{true}
use mathlib.Core.Logic.{◌⊎◌, inl, inr, ⊎_elim}
use mathlib.Core.List.{List}
use lib.ListN.{get_or}
use borrow.Author.Tests.{le-ltb}
use Rattle.construction.specs.Types.{Done, Active, Announcement, Words, Program, Label, P3, Card, Answered}
use Rattle.construction.specs.Cells.{open_announcement}
use Rattle.construction.specs.Instructions.{word, load, store, effect_of}
use Rattle.construction.specs.Parts.{announcement_at, local_at}
use Rattle.construction.specs.Machine.{access_of, advance}
use Rattle.construction.specs.Requests.{is_busy, answer_of}
use Rattle.construction.specs.Opening.{opened}
use Rattle.construction.specs.History.{Entry, Steps, Observation, run}
use Rattle.construction.specs.Faults.{PastFaults, FaultLeavesAll, MarkedDone, UnmarkedReading, Announces, YieldsKept}
use Rattle.construction.proofs.Basics.{active_not_done}
use Rattle.construction.proofs.Simulating.Sequential.{sequential_fault}
use Rattle.construction.proofs.Invariant.World.{World, announcement_in, Result, WorldInvariant, Move, Frame, frame_of}
use Rattle.construction.proofs.Invariant.World.Move.{stay, ask, announce, leave, take, write, end, free}
use Rattle.construction.proofs.Invariant.WorldKept.{announcements_set}
use Rattle.construction.proofs.Invariant.Assertions.{LocAt, known}
use Rattle.construction.proofs.Invariant.Stages.{stage, busy_stage}
use Rattle.construction.proofs.Invariant.Cards.{good_is, announcements_is, inv_step}
use Rattle.construction.proofs.Invariant.ActiveFlags.{access_active, active_before}
use Rattle.construction.proofs.Observing.Outcomes.{Outcome, outcome}
use Rattle.construction.proofs.Observing.Consistency.{Consistent}
use Rattle.construction.proofs.Observing.Runs.{opened_consistent}
use Rattle.construction.proofs.Statements.Numbers.{result_is}

pub past_faults : (n : ℕ) (inputs r : Words) → PastFaults n inputs r
unfolding effect_of load store
past_faults n inputs r = record {
  loads = λ a b h. rw (le-ltb (word r b) n h);
  stores = λ a b h. rw (le-ltb (word r a) n h);
}

pub fault_leaves_all : (n : ℕ) (program : Program) (inputs : Words) (words : List ℕ) → FaultLeavesAll n program inputs words
fault_leaves_all = sequential_fault

-- after any list of entries
pub marked_done : (t : List ℕ) (es : List Entry) → MarkedDone (run (opened t).card es).card
marked_done t es = λ m. ((good_is (opened_consistent t es).inv).announced m).marked

pub unmarked_reading : (t : List ℕ) (es : List Entry) → UnmarkedReading (run (opened t).card es).card
unmarked_reading t es i l e =
    let O = opened_consistent t es in
    let c = (run (opened t).card es).card in
    (subst (λ (p : Label). LocAt p (frame_of c O.world) O.world i (known (local_at c i))) e (O.inv.locs i l)).2.core.unmarked

-- what a move of process i leaves of an announcement of j that is done
module _ {F : Frame} {w : World} (G : WorldInvariant F w) (i j : ℕ) (d : (announcement_in w j).flag ≡ Done) where
  abbrev Left : Announcement → Type 0
  Left x = (x ≡ announcement_in w j) ⊎ ((j ≡ i) × (x.flag ≡ Active))

  move_keeps : {v : World} → Move F i w v → Left (announcement_in v j)
  move_keeps stay = inl refl
  move_keeps (ask q lt Q) = inl refl
  move_keeps (announce a lt Q fa A) = announcements_set G Left i j a lt (λ e. inr (e, fa)) (λ _. inl refl)
  move_keeps (leave lt fa) = announcements_set G Left i j _ lt (λ e. absurd (active_not_done fa (rw e at d))) (λ _. inl refl)
  move_keeps (take m lt hn fl op z) = inl refl
  move_keeps (write m u x vl hm fl below ex) = inl refl
  move_keeps (end m lt hm fl all) = announcements_set G Left m j _ lt (λ e. absurd (fl (rw e at d))) (λ _. inl refl)
  move_keeps (free m lt hm q) = inl refl

module _ (o : Card) (m : Observation) (O : Consistent o m) (j : ℕ) (d : (announcement_at m.card j).flag ≡ Done) where
  abbrev c : Card
  c = m.card

  abbrev Stays : Entry → Answered → Type 0
  Stays e r = (announcement_at r.card j ≡ announcement_at c j) ⊎ Announces c e j

  -- a process whose announcement is done, and active after its step, is at P3
  announces : is_busy c j ≡ true → (announcement_at (advance c j) j).flag ≡ Active → (local_at c j).control.place ≡ P3
  unfolding access_of advance
  announces b a =
      let never : (announcement_at c j).flag ≡ Active → ⊥ = λ z. active_not_done z d in
      ⊎_elim (λ z. absurd (never (access_active _ c j (rw z) a)))
      (⊎_elim (λ z. z) (λ z. absurd (never (active_before c j z a)))) (busy_stage (stage (local_at c j).control.place) b)

  step_stays :
      {e : Entry} (i : ℕ) → Steps e i → i < c.process_count → is_busy c i ≡ true → c.steps < c.limit →
      Stays e (record { card = advance c i; answer = answer_of (local_at (advance c i) i) })
  step_stays {e} i x lt b l =
      let S = inv_step c O.world i O.inv lt b l in
      let at : List Announcement → Announcement = λ y. get_or y j open_announcement in
      let before = announcements_is O.inv in
      let after = announcements_is S.inv in
      ⊎_elim (λ q. inl (ap at after ∙ (q ∙ ap at (sym before))))
      (λ q. inr (record {
        step = subst (Steps e) (sym q.0) x;
        place =
            announces (subst (λ (n : ℕ). is_busy c n ≡ true) (sym q.0) b)
            (subst (λ (n : ℕ). (announcement_at (advance c n) j).flag ≡ Active) (sym q.0)
            (ap (λ (y : List Announcement). (at y).flag) after ∙ q.1));
      }))
      (move_keeps O.inv.good i j (ap (λ (y : List Announcement). (at y).flag) (sym before) ∙ d) S.move)

  outcome_stays : {e : Entry} {r : Answered} → Outcome c e r → Stays e r
  outcome_stays (Outcome.turned_back e why) = inl refl
  outcome_stays (Outcome.called i k inputs p b) = inl refl
  outcome_stays (Outcome.asked i p) = inl refl
  outcome_stays (Outcome.stepped i x p b l) = step_stays i x p b l
  outcome_stays (Outcome.unaltered k from t why line) = inl refl
  outcome_stays (Outcome.altered k from t p a l u) = inl refl
  outcome_stays (Outcome.shown v x) = inl refl

pub yields_kept : (t : List ℕ) (es : List Entry) → YieldsKept (run (opened t).card es)
yields_kept t es =
    record {
      finished = λ i l d. ap (λ (r : Result). r.yields) (result_is t es i l d);
      stays = λ e i d. outcome_stays (opened t).card (run (opened t).card es) (opened_consistent t es) i d (outcome _ e);
    }
