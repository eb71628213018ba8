-- What the invariant says of reads, of answers and of the places of processes.
use Prim.Native.Nat.{ℕ, ◌<◌}
use mathlib.Core.Path.{◌≡◌, refl, sym, subst, ap, ◌∙◌}
use mathlib.Core.Bool.{Bool, true, false, cond, not, ◌&&◌}
use mathlib.Core.Logic.{◌≢◌, ◌⊎◌, inl, inr, ⊎_elim}
use native.Mathlib.Omega.{arith}
use lib.Dec.{eqb}
use borrow.Author.Tests.{eqb-true, eqb-false, not-false}
use Rattle.std.specs.Prelude.{Option, None, Some}
use Rattle.construction.specs.Types.{Flag, Done, Active, Exit, Announcement, Label, Idle, Card, Answer}
use Rattle.construction.specs.Cells.{is_done, current, previous}
use Rattle.construction.specs.Parts.{announcement_at, record_at, local_at, Local}
use Rattle.construction.specs.Machine.{holder_of}
use Rattle.construction.specs.Requests.{is_busy, pending, value_of, returned, answer_of, is_idle}
use Rattle.construction.proofs.Basics.{on_test, true_false, true_or_false, active_not_done, exit_not_done}
use Rattle.construction.proofs.Invariant.World.{Round, World, announcement_in, Result, result_of, result_in, round_in, word_at, Phase, WorldInvariant, Quiet}
use Rattle.construction.proofs.Invariant.World.{frame_of, Frame}
use Rattle.construction.proofs.Invariant.Assertions.{LocAt, known}
use Rattle.construction.proofs.Invariant.Stages.{is_announced, Stage, stage}
use Rattle.construction.proofs.Invariant.Acting.{world_of}
use Rattle.construction.proofs.Invariant.Cards.{CardInvariant, good_is, at_rest}

-- a read shows the word of the sequential run
module _ (c : Card) (w : World) (I : CardInvariant c w) (v : ℕ) (vl : v < c.variable_count) where
  abbrev W : World
  W = world_of c w

  good : WorldInvariant (frame_of c w) W
  good = good_is I

  -- what is read where the test of the gate's holder says b
  abbrev shown : Bool → ℕ
  shown b = cond (b && eqb (record_at c v).seq c.gate.seq) (previous (record_at c v)) (current (record_at c v))

  under_way_lem : (m : ℕ) → Phase (Some m) W → (announcement_at c m).flag ≢ Done → shown true ≡ word_at w.words v
  under_way_lem m ph nd =
      let now : word_at (round_in W c.gate.seq).words v ≡ word_at w.words v =
      ap (λ (r : Round). word_at r.words v) (ph.2 nd).now in
      on_test (λ y. y ≡ word_at w.words v) (eqb (record_at c v).seq c.gate.seq)
      (λ e. let z : (record_at c v).seq ≡ c.gate.seq = eqb-true _ _ e in
      subst (λ (k : ℕ). previous (record_at c v) ≡ word_at (round_in W k).words v) z
      (good.recorded.same v vl (omega (arith, good.left_below m))).0 ∙ now)
      (λ e. let z : (record_at c v).seq ≢ c.gate.seq = eqb-false _ _ e in
      good.recorded.old c.gate.seq v (omega (arith, ph.0)) vl (omega (arith, good.recorded.below v, ph.0)) ∙ now)

  by_flag_lem :
      (m : ℕ) → Phase (Some m) W → (f : Flag) → (announcement_at c m).flag ≡ f →
      shown (not (is_done f)) ≡ word_at w.words v
  by_flag_lem m ph Done e = good.recorded.words_are v vl (omega (arith, ph.1 e, ph.0))
  by_flag_lem m ph Active e = under_way_lem m ph (active_not_done e)
  by_flag_lem m ph Exit e = under_way_lem m ph (exit_not_done e)

  by_holder_lem : (h : Option ℕ) → Phase h W → shown (pending h (announcement_at c (holder_of h))) ≡ word_at w.words v
  by_holder_lem None ph = good.recorded.words_are v vl (omega (arith, ph.0, ph.1))
  by_holder_lem (Some m) ph = by_flag_lem m ph (announcement_at c m).flag refl

  pub read_is : value_of c v ≡ word_at w.words v
  unfolding value_of
  read_is = by_holder_lem c.gate.holder good.phase

-- the answer of an operation that has returned: done with the number and what the sequential run yields, or exited
module _ {c : Card} {w : World} (I : CardInvariant c w) (i : ℕ) (lt : i < c.process_count) (b : is_busy c i ≡ false) where
  -- what the announcement says, and the answer
  abbrev pub Returned : Answer → Type 0
  Returned a =
      (((announcement_in w i).flag ≡ Done) × (a ≡ Answer.Done (result_in w i).number (result_in w i).yields (local_at c i).steps))
      ⊎ (((announcement_in w i).flag ≡ Exit) × (a ≡ Answer.Exited (local_at c i).steps))

  pub answer_is : Returned (answer_of (local_at c i))
  answer_is = go (local_at c i).announcement.flag (ap (λ (a : Announcement). a.flag) q.1.same)
    where
      q : LocAt Idle (frame_of c w) w i (local_at c i)
      q = at_rest I i lt b

      idle : is_idle (local_at c i).control.place ≡ true
      idle = not-false _ b

      result : (announcement_in w i).flag ≡ Done → result_of (local_at c i).announcement ≡ result_in w i
      result e = sym (ap result_of q.1.same) ∙ q.1.out e

      go :
          (f : Flag) → (announcement_in w i).flag ≡ f →
          Returned (cond (is_idle (local_at c i).control.place) (returned (local_at c i).announcement f (local_at c i).steps) Answer.Run)
      go Done e = inl (e, rw idle (ap (λ (r : Result). Answer.Done r.number r.yields (local_at c i).steps) (result e)))
      go Active e = absurd (q.0.not_active e)
      go Exit e = inr (e, rw idle)

module _ (F : Frame) (w : World) (i : ℕ) (t : Local) where
  quiet_at : {l : Label} → Stage l → is_announced l ≡ false → LocAt l F w i t → Quiet w i
  quiet_at Stage.idle e q = q.0
  quiet_at Stage.called e q = q.0
  quiet_at Stage.numbered e q = q.0
  quiet_at (Stage.announced l a b f) e q = absurd (true_false _ a e)

module _ {c : Card} {w : World} (I : CardInvariant c w) (i : ℕ) (lt : i < c.process_count) where
  -- an operation that is not announced is not active and does not hold the gate
  quiet_is : is_announced (local_at c i).control.place ≡ false → Quiet w i
  quiet_is e = quiet_at (frame_of c w) w i (known (local_at c i)) (stage (local_at c i).control.place) e (I.locs i lt)

  -- the holder of the gate is announced
  pub holder_announced : w.gate.holder ≡ Some i → is_announced (local_at c i).control.place ≡ true
  holder_announced h =
      ⊎_elim (λ z. z) (λ z. absurd ((quiet_is z).free_of h)) (true_or_false (is_announced (local_at c i).control.place))
