-- The steps whose access is of an announcement, but for P16: P3, P6, P7, C2, C4, P19, P20, P22.
use Prim.Native.Nat.{ℕ, ◌<◌}
use mathlib.Core.Path.{◌≡◌, refl, sym, ap, ◌∙◌}
use mathlib.Core.Bool.{false, false≢true}
use mathlib.Core.Logic.{◌≢◌, inl, inr, ⊎_elim}
use native.Mathlib.Omega.{arith}
use native.Mathlib.Nat.{mod-lt}
use lib.ListN.{get_or, set}
use lib.Seq.{get_or-set_same, set-get_or}
use borrow.Author.Tests.{lt-ltb}
use Rattle.std.specs.Prelude.{Some}
use Rattle.construction.specs.Types.{Gate, Flag, Done, Active, Exit, Yield, Announcement, Label, Idle, P3, P5, P7, P10, C2, C4, P13, P19, P20}
use Rattle.construction.specs.Types.{P21, P22, F1, AnnouncementAccess, Access, Operation, Card}
use Rattle.construction.specs.Cells.{open_announcement, same_announcement, swap_announcement}
use Rattle.construction.specs.Parts.{announcement_at, record_at, with_announcement, local_at, Local, with_local}
use Rattle.construction.specs.Machine.{go_to, by_flag, holder_of, first_choice, whose, announced, flagged, withdrawn, finished, access_announcement, perform}
use Rattle.construction.proofs.Basics.{on_test, true_or_false, announcement_path, same_announcement-true, same_announcement-false, active_not_done}
use Rattle.construction.proofs.Basics.{active_not_exit, exit_not_done, else_done}
use Rattle.construction.proofs.Invariant.World.{ending_in, World, announcement_in, left_in, call_in, round_in, word_at, operation_of, AnnouncementInvariant}
use Rattle.construction.proofs.Invariant.World.{ending, Move, Frame, frame_of}
use Rattle.construction.proofs.Invariant.World.Move.{announce, leave, end}
use Rattle.construction.proofs.Invariant.Claims.{view_of, Change, Mine, Eligible, end_change}
use Rattle.construction.proofs.Invariant.Assertions.{Helper, Plan, Ready, LocAt, Loc, helper_stays, plan_stays, ready_stays}
use Rattle.construction.proofs.Invariant.Acting.{world_of, Step, Before, Acted, acts, keeps, at_control, goes_on, at_announcement}

-- line C1 names a process
first_inside : (p i : ℕ) (g : Gate) → i < p → whose AnnouncementAccess.ReadFirst p i g < p
unfolding first_choice
first_inside p i g lt = rw (lt-ltb 0 p (omega arith)) (mod-lt _ (omega arith))

module _ {c : Card} {w : World} {i : ℕ} (B : Before c w i) where
  abbrev W : World
  W = world_of c w

  abbrev F : Frame
  F = frame_of c w

  -- the announcement of m after it was set
  set_is : (m : ℕ) (a : Announcement) → m < c.process_count → get_or (set c.announcements m a) m open_announcement ≡ a
  set_is m a lt =
      get_or-set_same c.announcements m a open_announcement (omega (arith, B.good.fits.few, B.good.lengths.announcements))

  pub at-P3 : Step c w i P3 (Access.Announcement AnnouncementAccess.Announce)
  unfolding perform access_announcement
  at-P3 q =
      acts B (announce new B.inside q.0 refl good) refl refl refl refl _ refl B.tidy (
        record {
          out = λ d. absurd (active_not_done (ap (λ (r : Announcement). r.flag) (set_is i new B.inside)) d);
          op = λ _. ap operation_of (set_is i new B.inside) ∙ q.1;
          called = q.1;
        },
        refl,
        refl,
      )
    where
      new : Announcement
      new = announced (local_at c i).operation (local_at c i).gate

      good : AnnouncementInvariant c.gate.seq (left_in W i) (call_in W i) new
      good = record {
        below = q.3;
        fresh = λ _. q.2;
        number_below = omega arith;
        unnumbered = λ _. refl;
        marked = λ t. absurd (false≢true t);
        active_operation = λ _. q.1;
      }

  -- process i with the announcement of m read, and at a place
  abbrev read : ℕ → Label → Local
  read m l = at_announcement (local_at c i) (announcement_at c m) (record { place = l; target = m })

  -- the announcement of m is read
  reads :
      (m : ℕ) (l : Label) → Loc F W i (read m l) →
      Acted c W i (with_local (with_announcement c m (announcement_at c m)) i (read m l))
  reads m l q = keeps B refl (set-get_or c.announcements m open_announcement) refl _ refl B.tidy q

  -- lines P7, C4 and P22: by the flag that is read
  at_own :
      (active exit : Label) → Mine (view_of W i) (local_at c i).operation → ((announcement_at c i).flag ≡ Active → Loc F W i (read i active)) →
      ((announcement_at c i).flag ≡ Exit → Loc F W i (read i exit)) →
      Acted c W i (perform (Access.Announcement (AnnouncementAccess.ReadOwn F1 active exit)) c i).card
  unfolding perform access_announcement
  at_own active exit mine a x = reads i _ (go (announcement_at c i).flag refl)
    where
      go : (f : Flag) → (announcement_at c i).flag ≡ f → Loc F W i (read i (by_flag f F1 active exit))
      go Done e = record { done = e; same = refl; out = mine.out e }
      go Active e = a e
      go Exit e = x e

  pub at-P7 : Step c w i P7 (Access.Announcement (AnnouncementAccess.ReadOwn F1 P10 P10))
  at-P7 q = at_own P10 P10 q (λ _. q) (λ _. q)

  -- at C2 and C4: m is nominated
  nominates :
      (m : ℕ) → m < c.process_count → LocAt C2 F W i (local_at c i) → Eligible W i m (local_at c i).gate.seq → Loc F W i (read m P13)
  nominates m ml q E = (q.0, q.1, ml, record { below = q.2; fit = λ _ _. E }, q.3)

  pub at-C4 : Step c w i C4 (Access.Announcement (AnnouncementAccess.ReadOwn F1 P13 P13))
  at-C4 q = at_own P13 P13 q.0 (λ e. self (active_not_done e)) (λ e. self (exit_not_done e))
    where
      self : (announcement_at c i).flag ≢ Done → Loc F W i (read i P13)
      self nd = nominates i B.inside q (record { alive = nd; op = q.0.op nd; right = inl refl })

  pub at-P22 : Step c w i P22 (Access.Announcement (AnnouncementAccess.ReadOwn F1 P5 Idle))
  at-P22 q =
      at_own P5 Idle q.0
      (λ e. (
        q.0,
        e,
        ap (λ (r : Operation). r.inputs) (q.0.op (active_not_done e) ∙ sym q.0.called),
      ))
      (λ e. (
        record { not_active = λ a. active_not_exit a e; free_of = q.1.free_of e; late = q.1.late },
        record { same = refl; out = q.0.out },
      ))

  read-C2 :
      (m : ℕ) → m < c.process_count → (f : Flag) → (announcement_at c m).flag ≡ f → LocAt C2 F W i (local_at c i) →
      Loc F W i (read m (by_flag f C4 P13 C4))
  read-C2 m ml Done e q = q
  read-C2 m ml Active e q =
      nominates m ml q
      (record { alive = active_not_done e; op = (B.good.announced m).active_operation e; right = inr (λ x. absurd (active_not_exit e x)) })
  read-C2 m ml Exit e q = q

  pub at-C2 : Step c w i C2 (Access.Announcement AnnouncementAccess.ReadFirst)
  unfolding perform access_announcement
  at-C2 q =
      let m : ℕ = whose AnnouncementAccess.ReadFirst c.process_count i (local_at c i).gate in
      reads m _ (read-C2 m (first_inside c.process_count i (local_at c i).gate B.inside) (announcement_at c m).flag refl q)

  -- process i at a place, and the card after a swap of announcement m
  abbrev at : Label → Local
  at l = at_control (local_at c i) (go_to (local_at c i).control l)

  abbrev swapped : ℕ → Announcement → Label → Card
  swapped m a l = with_local (with_announcement c m a) i (at l)

  -- a swap of the announcement of m, from a to b: won where a is the announcement, and else lost
  swaps :
      (m : ℕ) (a b : Announcement) (l : Label) → (announcement_at c m ≡ a → Acted c W i (swapped m b l)) →
      (same_announcement (announcement_at c m) a ≡ false → Loc F W i (at l)) →
      Acted c W i (swapped m (swap_announcement (announcement_at c m) a b).cell l)
  unfolding swap_announcement
  swaps m a b l won lost =
      on_test (λ x. Acted c W i (swapped m x l)) (same_announcement (announcement_at c m) a) (λ e. won (same_announcement-true _ _ e))
      (λ e. goes_on B _ (lost e) refl (set-get_or c.announcements m open_announcement) refl)

  -- an announcement that is not done carries no mark
  unmarked : (announcement_at c i).flag ≢ Done → (announcement_at c i).fault ≡ false
  unmarked nd =
      ⊎_elim (λ t. absurd (nd ((B.good.announced i).marked t).0)) (λ f. f) (true_or_false (announcement_at c i).fault)

  pub at-P6 : Step c w i P5 (Access.Announcement AnnouncementAccess.Withdraw)
  unfolding perform access_announcement
  at-P6 q = swaps i (local_at c i).announcement _ P7 won (λ _. q.0)
    where
      won : announcement_at c i ≡ (local_at c i).announcement → Acted c W i (swapped i (withdrawn (local_at c i).announcement (local_at c i).operation) P7)
      won z =
          let fa : (announcement_at c i).flag ≡ Active = ap (λ (r : Announcement). r.flag) z ∙ q.1 in
          let zw : (announcement_at c i).words ≡ (local_at c i).operation.inputs = ap (λ (r : Announcement). r.words) z ∙ q.2 in
          let y = set_is i (flagged (announcement_at c i) Exit) B.inside in
          let same : withdrawn (local_at c i).announcement (local_at c i).operation ≡ flagged (announcement_at c i) Exit =
          announcement_path (ap (λ (r : Announcement). r.program) (sym z)) refl (ap (λ (r : Announcement). r.seq) (sym z))
          (sym ((B.good.announced i).unnumbered (active_not_done fa))) (sym zw) (sym (unmarked (active_not_done fa))) in
          acts B (leave B.inside fa) refl refl (ap (set c.announcements i) same) refl _ refl B.tidy (record {
            out = λ d. absurd (exit_not_done (ap (λ (r : Announcement). r.flag) y) d);
            op = λ _. ap operation_of y ∙ q.0.op (active_not_done fa);
            called = q.0.called;
          })

  -- the process that is helped
  abbrev helped : ℕ
  helped = holder_of (local_at c i).gate.holder

  -- a helper that swaps the flag to done, from the flag f that it expects
  module _ (l : Label) (f : Flag) (nf : f ≢ Done) (helper : Helper F W i (local_at c i).operation (local_at c i).gate)
      (plan : Plan F W (local_at c i).gate (local_at c i).announcement) (rd : Ready F W (local_at c i).gate.seq (local_at c i).simulation.yields) where
    ends :
        announcement_at c helped ≡ flagged (local_at c i).announcement f →
        (Move F i W (ending F W helped) → Change i (view_of W i) (view_of (ending F W helped) i) →
        Loc F (ending F W helped) i (at l)) →
        Acted c W i (swapped helped (finished (local_at c i).announcement (local_at c i).gate (local_at c i).simulation.yields) l)
    ends z loc =
        let nd : (announcement_at c helped).flag ≢ Done = λ d. nf (sym (ap (λ (r : Announcement). r.flag) z) ∙ d) in
        let zq : (announcement_at c helped).seq ≡ (local_at c i).announcement.seq = ap (λ (r : Announcement). r.seq) z in
        let still = helper.seen.still (omega (arith, (B.good.announced helped).fresh nd, plan.early)) in
        let zs : c.gate.seq ≡ (local_at c i).gate.seq = still.1 in
        let all :
        (v : ℕ) → v < c.variable_count → (record_at c v).seq < c.gate.seq →
        word_at (ending_in F W c.gate.seq).words v ≡ word_at (round_in W c.gate.seq).words v =
        ⊎_elim (λ b. absurd (omega arith)) (λ g. rw zs g) rd.all in
        let yields : (local_at c i).simulation.yields ≡ (ending_in F W c.gate.seq).yields =
        ⊎_elim (λ b. absurd (omega arith)) (λ g. rw zs g) rd.yields in
        let M : Move F i W (ending F W helped) = end helped helper.inside still.0 nd all in
        let same :
        finished (local_at c i).announcement (local_at c i).gate (local_at c i).simulation.yields
        ≡ finished (announcement_at c helped) c.gate (ending_in F W c.gate.seq).yields =
        announcement_path (sym (ap (λ (r : Announcement). r.program) z)) refl (sym zq) (sym zs)
        (ap (λ (y : Yield). y.outputs) yields) (ap (λ (y : Yield). y.fault) yields) in
        acts B M refl refl (ap (set c.announcements helped) same) refl _ refl B.tidy
        (loc M (end_change B.good helped i helper.inside still.0 nd))

    -- where the swap is lost, the flag is not f
    missed :
        same_announcement (announcement_at c helped) (flagged (local_at c i).announcement f) ≡ false →
        c.gate.holder ≡ Some helped → c.gate.seq ≡ (local_at c i).gate.seq → (announcement_at c helped).flag ≢ f
    missed e h z a =
        let y = plan.working.alike h z (λ d. nf (sym a ∙ d)) in
        same_announcement-false _ _ e (announcement_path y.program a y.seq y.number y.words y.fault)

  -- afterwards the flag of m is done
  is_done_lem : (m : ℕ) → m < c.process_count → (announcement_in (ending F W m) m).flag ≡ Done
  is_done_lem m ml = ap (λ (r : Announcement). r.flag) (set_is m _ ml)

  pub at-P19 : Step c w i P19 (Access.Announcement (AnnouncementAccess.Finish Active P20))
  unfolding perform access_announcement
  at-P19 q =
      swaps helped (flagged (local_at c i).announcement Active) _ P20
      (λ z. ends P20 Active (active_not_done refl) q.0 q.1 q.2 z (λ M C. (
        helper_stays B.good M C q.0,
        plan_stays B.good M (local_at c i).gate (local_at c i).announcement q.0.seen q.1,
        ready_stays B.good M (local_at c i).gate.seq q.1.number q.1.below (local_at c i).simulation.yields q.2,
        record { isnt = λ _ _ a. active_not_done a (is_done_lem helped q.0.inside) },
      )))
      (λ e. (q.0, q.1, q.2, record { isnt = missed P20 Active (active_not_done refl) q.0 q.1 q.2 e }))

  pub at-P20 : Step c w i P20 (Access.Announcement (AnnouncementAccess.Finish Exit P21))
  unfolding perform access_announcement
  at-P20 q =
      swaps helped (flagged (local_at c i).announcement Exit) _ P21
      (λ z. ends P21 Exit (exit_not_done refl) q.0 q.1 q.2 z
      (λ M C. (helper_stays B.good M C q.0, record { over = λ _ _. is_done_lem helped q.0.inside })))
      (λ e. (q.0, record { over = λ h z. else_done _ (q.3.isnt h z) (missed P21 Exit (exit_not_done refl) q.0 q.1 q.2 e h z) }))
