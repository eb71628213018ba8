-- The steps whose access is of an announcement, but for P16, on the course of the process: P3, P6, P7, C2, C4, P19, P20, P22.
use Prim.Native.Nat.{ℕ, suc, ◌≤◌}
use mathlib.Core.Path.{◌≡◌, refl, sym, subst, ap, ◌∙◌}
use mathlib.Core.Bool.{true}
use mathlib.Core.Logic.{◌≢◌}
use mathlib.Core.List.{List}
use native.Mathlib.Omega.{arith}
use lib.ListN.{get_or, set}
use lib.Seq.{get_or-set_same, set-get_or}
use Rattle.construction.specs.Types.{Flag, Done, Active, Exit, Announcement, Label, Idle, P3, P5, P7, P10, C2, C4, P13, P19, P20, P21, P22, F1}
use Rattle.construction.specs.Types.{AnnouncementAccess, Access, Card}
use Rattle.construction.specs.Cells.{open_announcement, same_announcement, swap_announcement}
use Rattle.construction.specs.Parts.{Local, local_at, contents_of, announcement_at, with_announcement, with_local}
use Rattle.construction.specs.Machine.{go_to, by_flag, whose, announced, withdrawn, access_announcement, perform}
use Rattle.construction.specs.Weight.{card_weight}
use Rattle.construction.proofs.Basics.{on_test, same_announcement-false, active_not_exit}
use Rattle.construction.proofs.Invariant.World.{World}
use Rattle.construction.proofs.Invariant.Acting.{Before, at_control, at_announcement, place_fits}
use Rattle.construction.proofs.Waiting.Turns.{Turn, turn_after}
use Rattle.construction.proofs.Waiting.Courses.{Tally, CourseAt, last_lap}
use Rattle.construction.proofs.Waiting.CourseSteps.{CourseIn, Now, CourseStep, one_more, put_course}

-- an operation that is still active at P22 has completed one more iteration
abbrev laps_by : Flag → ℕ → ℕ
laps_by Done n = n
laps_by Active n = suc n
laps_by Exit n = n

abbrev again : Flag → Tally → Tally
again f x = record { turn = x.turn; laps = laps_by f x.laps; spent = x.spent }

module _ {c : Card} {w : World} {i : ℕ} (B : Before c w i) (small : (local_at c i).steps ≤ 1000000000000000000) (x : Tally) where
  abbrev p : ℕ
  p = c.process_count

  abbrev heavy : ℕ
  heavy = card_weight (contents_of c)

  -- the course at a place with the own state t, while the announcement of i is a
  abbrev At : Label → Announcement → Tally → Local → Type 0
  At l a y t = CourseAt l p heavy c.gate a y t

  -- the announcement of i after it was set
  set_own : (a : Announcement) → get_or (set c.announcements i a) i open_announcement ≡ a
  set_own a =
      get_or-set_same c.announcements i a open_announcement (omega (arith, place_fits B, B.good.lengths.announcements))

  pub at-P3 : Now c i x P3 → CourseStep c i x (Access.Announcement AnnouncementAccess.Announce)
  unfolding perform access_announcement
  at-P3 q =
      let T : Turn p c.gate.seq i = turn_after p c.gate.seq i B.inside in
      let y : Tally = record { turn = T.number; laps = 0; spent = 0 } in
      let a : Announcement = announced (local_at c i).operation (local_at c i).gate in
      CourseStep.announced y T.after T.own refl
      (put_course B c.gate (set c.announcements i a) c.records (at_announcement (local_at c i) a (go_to (local_at c i).control P5)) y (
        record { few = omega arith; low = omega (arith, T.near); wished = omega arith; cost = omega (arith, q) },
        refl,
        λ _. set_own a,
      ))

  -- process i with the announcement of m read, and at a place
  abbrev read : ℕ → Label → Local
  read m l = at_announcement (local_at c i) (announcement_at c m) (record { place = l; target = m })

  reads :
      (m : ℕ) (l : Label) (y : Tally) → At l (announcement_at c i) y (read m l) →
      CourseIn c i y (with_local (with_announcement c m (announcement_at c m)) i (read m l))
  reads m l y q =
      put_course B c.gate (set c.announcements m (announcement_at c m)) c.records (read m l) y
      (subst (λ (s : List Announcement). At l (get_or s i open_announcement) y (read m l))
      (sym (set-get_or c.announcements m open_announcement)) q)

  -- lines P7 and C4: by the flag that is read
  at_own :
      (next : Label) → At F1 (announcement_at c i) x (read i F1) → At next (announcement_at c i) x (read i next) →
      CourseStep c i x (Access.Announcement (AnnouncementAccess.ReadOwn F1 next next))
  unfolding perform access_announcement
  at_own next d a = CourseStep.continued x refl refl refl (reads i _ x (go (announcement_at c i).flag))
    where
      go : (f : Flag) → At (by_flag f F1 next next) (announcement_at c i) x (read i (by_flag f F1 next next))
      go Done = d
      go Active = a
      go Exit = a

  pub at-P7 : Now c i x P7 → CourseStep c i x (Access.Announcement (AnnouncementAccess.ReadOwn F1 P10 P10))
  at-P7 q = at_own P10 (omega (arith, last_lap q (omega arith))) (one_more small q _ 1 (omega arith) (omega arith) _ _ _ _ _ _)

  pub at-C4 : Now c i x C4 → CourseStep c i x (Access.Announcement (AnnouncementAccess.ReadOwn F1 P13 P13))
  at-C4 q = at_own P13 (omega (arith, last_lap q (omega arith))) (one_more small q _ 4 (omega arith) (omega arith) _ _ _ _ _ _)

  -- line P22: an operation that is still active begins one more iteration, before its turn is over
  pub at-P22 :
      ((announcement_at c i).flag ≡ Active → (x.spent ≡ 0) × (c.gate.seq ≤ x.turn)) → Now c i x P22 →
      CourseStep c i x (Access.Announcement (AnnouncementAccess.ReadOwn F1 P5 Idle))
  unfolding perform access_announcement
  at-P22 due q =
      CourseStep.continued (again (announcement_at c i).flag x) refl refl refl
      (reads i _ (again (announcement_at c i).flag x) (go (announcement_at c i).flag refl))
    where
      go :
          (f : Flag) → (announcement_at c i).flag ≡ f →
          At (by_flag f F1 P5 Idle) (announcement_at c i) (again f x) (read i (by_flag f F1 P5 Idle))
      go Done e = omega (arith, last_lap q.0 (omega arith))
      go Active e =
          let d = due e in (
            record {
              few = omega (arith, q.1, d.1);
              low = q.1;
              wished = q.0.wished;
              cost = omega (arith, q.0.cost);
            },
            d.0,
            λ _. refl,
          )
      go Exit e = omega (arith, last_lap q.0 (omega arith))

  pub at-C2 : Now c i x C2 → CourseStep c i x (Access.Announcement AnnouncementAccess.ReadFirst)
  unfolding perform access_announcement
  at-C2 q = CourseStep.continued x refl refl refl (reads m _ x (go (announcement_at c m).flag))
    where
      m : ℕ
      m = whose AnnouncementAccess.ReadFirst p i (local_at c i).gate

      go : (f : Flag) → At (by_flag f C4 P13 C4) (announcement_at c i) x (read m (by_flag f C4 P13 C4))
      go Done = one_more small q _ 3 (omega arith) (omega arith) _ _ _ _ _ _
      go Active = one_more small q _ 4 (omega arith) (omega arith) _ _ _ _ _ _
      go Exit = one_more small q _ 3 (omega arith) (omega arith) _ _ _ _ _ _

  -- process i at a place, and its course after a swap of the announcement of m
  abbrev at : Label → Local
  at l = at_control (local_at c i) (go_to (local_at c i).control l)

  abbrev swapped : ℕ → Announcement → Label → Card
  swapped m a l = with_local (with_announcement c m a) i (at l)

  pub at-P6 : (local_at c i).exit ≡ true → Now c i x P5 → CourseStep c i x (Access.Announcement AnnouncementAccess.Withdraw)
  unfolding perform access_announcement swap_announcement
  at-P6 wish q =
      let both =
      on_test
      (λ a. ((get_or (set c.announcements i a) i open_announcement).flag ≢ Active) × CourseIn c i y (swapped i a P7))
      (same_announcement (announcement_at c i) (local_at c i).announcement)
      (λ _. withdraws (withdrawn (local_at c i).announcement (local_at c i).operation) (λ e. active_not_exit e refl))
      (λ e. withdraws (announcement_at c i) (λ f. same_announcement-false _ _ e (q.2 f))) in
      CourseStep.withdrew y both.0 both.1
    where
      y : Tally
      y = record { turn = x.turn; laps = x.laps; spent = 2 }

      withdraws :
          (a : Announcement) → a.flag ≢ Active →
          ((get_or (set c.announcements i a) i open_announcement).flag ≢ Active) × CourseIn c i y (swapped i a P7)
      withdraws a n = (
        λ e. n (ap (λ (r : Announcement). r.flag) (sym (set_own a)) ∙ e),
        put_course B c.gate (set c.announcements i a) c.records (at P7) y
            (record {
              few = q.0.few;
              low = q.0.low;
              wished = rw wish (omega arith);
              cost = omega (arith, q.0.cost, q.1);
            }),
      )

  -- lines P19 and P20
  at_finish :
      (f : Flag) (l : Label) → ((a : Announcement) → At l a x (at l)) → CourseStep c i x (Access.Announcement (AnnouncementAccess.Finish f l))
  unfolding perform access_announcement
  at_finish f l q =
      let s : List Announcement = (perform (Access.Announcement (AnnouncementAccess.Finish f l)) c i).card.announcements in
      CourseStep.continued x refl refl refl (put_course B c.gate s c.records (at l) x (q (get_or s i open_announcement)))

  pub at-P19 : Now c i x P19 → CourseStep c i x (Access.Announcement (AnnouncementAccess.Finish Active P20))
  at-P19 q = at_finish Active P20 (λ _. one_more small q _ _ (omega arith) (omega arith) _ _ _ _ _ _)

  pub at-P20 : Now c i x P20 → CourseStep c i x (Access.Announcement (AnnouncementAccess.Finish Exit P21))
  at-P20 q = at_finish Exit P21 (λ _. one_more small q _ _ (omega arith) (omega arith) _ _ _ _ _ _)
