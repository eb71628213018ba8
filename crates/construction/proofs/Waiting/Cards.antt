-- The invariant of waiting, of a card that has that of safety: fresh cards have it, and every taken call, exit request and step keeps it.
use Prim.Native.Nat.{ℕ, ◌<◌}
use mathlib.Core.Path.{◌≡◌, refl, sym, subst, ap, ◌∙◌}
use mathlib.Core.Bool.{true, false}
use mathlib.Core.Logic.{◌≢◌, inl, inr}
use mathlib.Core.List.{List}
use native.Mathlib.Omega.{arith}
use native.Mathlib.Decide.{ℕ_discrete}
use lib.ListN.{get_or}
use borrow.Author.Tests.{not-true}
use Rattle.construction.specs.Types.{Gate, Active, Words, Announcement, Label, Control, Card, Contents, Program}
use Rattle.construction.specs.Cells.{open_announcement}
use Rattle.construction.specs.Parts.{idle_control, Local, local_at, contents_of, announcement_at, with_local, with_revision}
use Rattle.construction.specs.Machine.{access_in, advance}
use Rattle.construction.specs.Requests.{is_busy, invoked, exiting}
use Rattle.construction.specs.Opening.{fresh}
use Rattle.construction.specs.Weight.{card_weight}
use Rattle.construction.proofs.Invariant.World.{World, announcement_in, frame_of}
use Rattle.construction.proofs.Invariant.Claims.{View, view_of, Change, change}
use Rattle.construction.proofs.Invariant.Claims.Change.{kept, took, ended, freed}
use Rattle.construction.proofs.Invariant.Locals.{local_same, local_other}
use Rattle.construction.proofs.Invariant.Assertions.{Loc}
use Rattle.construction.proofs.Invariant.Cards.{CardInvariant, Stepped, gate_is, announcements_is, before_step, at_rest, inv_step}
use Rattle.construction.proofs.Invariant.ActiveFlags.{access_active}
use Rattle.construction.proofs.Waiting.Courses.{Tally, CourseAt, Onward, course_stays, course_exits}
use Rattle.construction.proofs.Waiting.Choices.{ChoosesIn, Due}
use Rattle.construction.proofs.Waiting.CourseSteps.{CourseStep}
use Rattle.construction.proofs.Waiting.DueSteps.{due_step}
use Rattle.construction.proofs.Waiting.Steps.{at_place}
use Rattle.construction.proofs.Basics.{nobody_process, active_not_done, get_or_replicate_same}

-- process j of a card with the contents F: the course of its operation, and its turn while it is active
pub record Waits (F : Contents) (c : Card) (j : ℕ) : Type 0 where
  pub tally : Tally
  pub frugal : (announcement_at c j).flag ≡ Active → tally.spent ≡ 0
  pub due : (announcement_at c j).flag ≡ Active → Due F.process_count c.gate (local_at c) j tally.turn
  pub course : CourseAt (local_at c j).control.place F.process_count (card_weight F) c.gate (announcement_at c j) tally (local_at c j)

abbrev pub AllWait : Contents → Card → Type 0
AllWait F c = (j : ℕ) → j < F.process_count → Waits F c j

-- what a move of another process changes of the gate and of one's own announcement
onward_change : {j : ℕ} {x y : View} → Change j x y → Onward x.gate y.gate
onward_change kept = record { above = omega arith; freed = inl }
onward_change (took m hn f) = record { above = omega arith; freed = λ h. absurd (nobody_process h refl) }
onward_change (ended o h d) = record { above = omega arith; freed = inl }
onward_change (freed b) = record { above = omega arith; freed = λ _. inr (omega arith) }

own_change : {j : ℕ} {x y : View} → Change j x y → y.announcement.flag ≡ Active → y.announcement ≡ x.announcement
own_change kept e = refl
own_change (took m hn f) e = refl
own_change (ended o h d) e = absurd (active_not_done e refl)
own_change (freed b) e = refl

-- an accepted step
module _ {c : Card} {w : World} {i : ℕ} (I : CardInvariant c w) (W : AllWait (contents_of c) c) (lt : i < c.process_count) (busy : is_busy c i ≡ true)
    (h : c.steps < c.limit) where
  abbrev F : Contents
  F = contents_of c

  S : Stepped c w i
  S = inv_step c w i I lt busy h

  -- its own process
  acting : Waits F (advance c i) i
  unfolding advance
  acting = go (at_place (before_step I lt h) (omega (arith, I.counts i, I.capped)) X.tally (λ e. (X.frugal e, (X.due e).high))
      (local_at c i).control.place (local_at c i).exit refl (not-true _ busy)
      (subst (λ (v : World). Loc (frame_of c w) v i (local_at c i)) (sym I.cells) (I.locs i lt)) X.course)
    where
      X : Waits F c i
      X = W i lt

      go : CourseStep c i X.tally (access_in (local_at c i)) → Waits F (advance c i) i
      go (CourseStep.announced y l own z q) = record {
        tally = y;
        frugal = λ _. z;
        due = λ _. record {
          own = own;
          high = omega arith;
          held = λ e. absurd (omega arith);
          chosen = λ e. absurd (omega arith);
        };
        course = q;
      }
      go (CourseStep.withdrew y n q) = record { tally = y; frugal = λ e. absurd (n e); due = λ e. absurd (n e); course = q }
      go (CourseStep.continued y n zt zs q) = record {
        tally = y;
        frugal = λ e. zs ∙ X.frugal (access_active _ c i n e);
        due = λ e. subst (λ (k : ℕ). Due c.process_count (advance c i).gate (local_at (advance c i)) i k) (sym zt)
            (due_step I lt busy S i X.tally.turn (X.due (access_active _ c i n e)) (access_active _ c i n e));
        course = q;
      }

  -- another
  module _ (j : ℕ) (ne : j ≢ i) (lj : j < c.process_count) where
    X : Waits F c j
    X = W j lj

    C : Change j (view_of w j) (view_of S.after j)
    C = change I.good ne S.move

    -- its announcement, if it is active, is as it was
    own_stays : (announcement_at (advance c i) j).flag ≡ Active → announcement_at (advance c i) j ≡ announcement_at c j
    own_stays =
        subst (λ (l : List Announcement). (get_or l j open_announcement).flag ≡ Active → get_or l j open_announcement ≡ announcement_at c j)
        (sym (announcements_is S.inv))
        (subst (λ (l : List Announcement). (announcement_in S.after j).flag ≡ Active → announcement_in S.after j ≡ get_or l j open_announcement)
        (sym (announcements_is I)) (own_change C))

    onward : Onward c.gate (advance c i).gate
    onward =
        subst (λ (g : Gate). Onward c.gate g) (sym (gate_is S.inv))
        (subst (λ (g : Gate). Onward g S.after.gate) (sym (gate_is I)) (onward_change C))

    was_active : (announcement_at (advance c i) j).flag ≡ Active → (announcement_at c j).flag ≡ Active
    was_active e = ap (λ (a : Announcement). a.flag) (sym (own_stays e)) ∙ e

    standing : Waits F (advance c i) j
    standing = record {
      tally = X.tally;
      frugal = λ e. X.frugal (was_active e);
      due = λ e. due_step I lt busy S j X.tally.turn (X.due (was_active e)) (was_active e);
      course =
          subst
          (λ (t : Local).
          CourseAt t.control.place F.process_count (card_weight F) (advance c i).gate (announcement_at (advance c i) j) X.tally t)
          (sym (S.elsewhere j ne))
          (course_stays (local_at c j).control.place F.process_count (card_weight F) X.tally (local_at c j) onward own_stays X.course);
    }

  pub wait_step : AllWait F (advance c i)
  wait_step j lj = go (ℕ_discrete j i)
    where
      go : Dec (j ≡ i) → Waits F (advance c i) j
      go (yes e) = subst (Waits F (advance c i)) (sym e) acting
      go (no ne) = standing j ne lj

-- process i gets the own state t, and chooses as before
module _ {c : Card} {w : World} {i : ℕ} (I : CardInvariant c w) (W : AllWait (contents_of c) c) (lt : i < c.process_count) (t : Local)
    (chooses : (j : ℕ) → ChoosesIn j c.gate (local_at c i) → ChoosesIn j c.gate t) where
  abbrev v : Card
  v = with_local c i t

  put_same : local_at v i ≡ t
  put_same = local_same c i t I.sizes (omega (arith, I.good.fits.few))

  due_put : {j turn : ℕ} → Due c.process_count c.gate (local_at c) j turn → Due c.process_count c.gate (local_at v) j turn
  due_put {j} {turn} D = record {
    own = D.own;
    high = D.high;
    held = D.held;
    chosen = λ e q lq. go e q lq (ℕ_discrete q i);
  }
    where
      go : c.gate.seq ≡ turn → (q : ℕ) → q < c.process_count → Dec (q ≡ i) → ChoosesIn j c.gate (local_at v q)
      go e q lq (yes z) =
          subst (λ (k : ℕ). ChoosesIn j c.gate (local_at v k)) (sym z)
          (subst (ChoosesIn j c.gate) (sym put_same) (chooses j (D.chosen e i lt)))
      go e q lq (no ne) = subst (ChoosesIn j c.gate) (sym (local_other c i q t ne)) (D.chosen e q lq)

  wait_put :
      (y : Tally) → ((announcement_at c i).flag ≡ Active → (y.spent ≡ 0) × Due c.process_count c.gate (local_at c) i y.turn) →
      CourseAt t.control.place c.process_count (card_weight (contents_of c)) c.gate (announcement_at c i) y t → AllWait (contents_of c) v
  wait_put y d q j lj = go (ℕ_discrete j i)
    where
      At : Local → Type 0
      At s = CourseAt s.control.place c.process_count (card_weight (contents_of c)) c.gate (announcement_at c i) y s

      own : Waits (contents_of c) v i
      own = record {
        tally = y;
        frugal = λ e. (d e).0;
        due = λ e. due_put (d e).1;
        course = subst At (sym put_same) q;
      }

      go : Dec (j ≡ i) → Waits (contents_of c) v j
      go (yes e) = subst (Waits (contents_of c) v) (sym e) own
      go (no ne) =
          let X = W j lj in
          record {
            tally = X.tally;
            frugal = X.frugal;
            due = λ e. due_put (X.due e);
            course =
                subst
                (λ (s : Local).
                CourseAt s.control.place c.process_count (card_weight (contents_of c)) c.gate (announcement_at c j) X.tally s)
                (sym (local_other c i j t ne)) X.course;
          }

pub wait_call :
    {c : Card} {w : World} {i : ℕ} (k : ℕ) (inputs : Words) → CardInvariant c w → AllWait (contents_of c) c → i < c.process_count → is_busy c i ≡ false →
    AllWait (contents_of c) (with_local c i (invoked (local_at c i) k inputs))
wait_call {c} {w} {i} k inputs I W lt b =
    wait_put I W lt (invoked (local_at c i) k inputs) (λ _ _. elim [ ]) (record { turn = 0; laps = 0; spent = 0 }) (λ e. absurd (inactive e)) (omega arith)
  where
    inactive : (announcement_at c i).flag ≢ Active
    inactive =
        subst (λ (l : List Announcement). (get_or l i open_announcement).flag ≢ Active) (sym (announcements_is I)) (at_rest I i lt b).0.not_active

pub wait_exit :
    {c : Card} {w : World} {i : ℕ} → CardInvariant c w → AllWait (contents_of c) c → i < c.process_count →
    AllWait (contents_of c) (with_local c i (exiting (local_at c i)))
wait_exit {c} {w} {i} I W lt =
    let X = W i lt in
    wait_put I W lt (exiting (local_at c i)) (λ _ q. q) X.tally (λ e. (X.frugal e, X.due e))
    (course_exits (local_at c i).control.place c.process_count (card_weight (contents_of c)) c.gate (announcement_at c i) X.tally (local_at c i)
    X.course)

-- a card as opened
pub wait_fresh : (x : Contents) → AllWait x (fresh x)
unfolding fresh
wait_fresh x j lj = record {
  tally = record { turn = 0; laps = 0; spent = 0 };
  frugal = λ _. refl;
  due = λ e. absurd (active_not_done e (ap (λ (a : Announcement). a.flag) (get_or_replicate_same 8 j open_announcement)));
  course =
      subst
      (λ (l : Label).
      CourseAt l x.process_count (card_weight x) (fresh x).gate (announcement_at (fresh x) j) (record { turn = 0; laps = 0; spent = 0 }) (local_at (fresh x) j))
      (sym (ap (λ (t : Control). t.place) (get_or_replicate_same 8 j idle_control)))
      (rw (get_or_replicate_same {A = ℕ} 8 j 0) (omega arith));
}

-- a change of a program: no course speaks of it
pub wait_change : {F : Contents} {c : Card} (k from : ℕ) (y : Program) → AllWait F c → AllWait F (with_revision c k from y)
wait_change k from y W j l =
    let X = W j l in
    record {
      tally = X.tally;
      frugal = X.frugal;
      due = λ e. let D = X.due e in record { own = D.own; high = D.high; held = D.held; chosen = D.chosen };
      course = X.course;
    }
