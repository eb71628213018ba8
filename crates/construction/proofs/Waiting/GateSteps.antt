-- The steps whose access is of the gate, on the course of the process: P1, P10, P13, P14, P21, F1, F3.
use Prim.Native.Nat.{ℕ, ◌≤◌}
use mathlib.Core.Path.{◌≡◌, refl, sym, ap, ◌∙◌}
use mathlib.Core.Bool.{false}
use mathlib.Core.Logic.{◌≢◌}
use native.Mathlib.Omega.{arith}
use Rattle.std.specs.Prelude.{Option, None, Some}
use Rattle.construction.specs.Types.{Gate, Label, Idle, P1, P3, P10, C2, P13, P14, P16, P21, P22, F1, F3, GateAccess, Access}
use Rattle.construction.specs.Types.{Card}
use Rattle.construction.specs.Cells.{same_holder, same_gate, swap_gate, released}
use Rattle.construction.specs.Parts.{Local, local_at, contents_of, announcement_at, with_gate, with_local}
use Rattle.construction.specs.Machine.{go_to, by_holder, nominated, access_gate, perform}
use Rattle.construction.specs.Weight.{card_weight}
use Rattle.construction.proofs.Basics.{on_test, gate_path, same_gate-true, same_gate-false, nobody_process}
use Rattle.construction.proofs.Invariant.World.{World}
use Rattle.construction.proofs.Invariant.Acting.{Before, at_control, at_gate}
use Rattle.construction.proofs.Invariant.GateSteps.{released_since}
use Rattle.construction.proofs.Waiting.Courses.{Tally, Ahead, CourseAt}
use Rattle.construction.proofs.Waiting.CourseSteps.{CourseIn, KnownAt, Now, CourseStep, one_more, put_course}

module _ {c : Card} {w : World} {i : ℕ} (B : Before c w i) (small : (local_at c i).steps ≤ 1000000000000000000) (x : Tally) where
  -- the course at a place with the own state t, while the gate is g
  abbrev At : Label → Gate → Local → Type 0
  At l g t = CourseAt l c.process_count (card_weight (contents_of c)) g (announcement_at c i) x t

  -- process i with the gate that it has read
  abbrev read : Label → Local
  read l = at_gate (local_at c i) c.gate (go_to (local_at c i).control l)

  -- lines P1, P10 and P14: by the holder that is read
  at_read :
      (held nobody : Label) → ((m : ℕ) → c.gate.holder ≡ Some m → At held c.gate (read held)) →
      (c.gate.holder ≡ None → At nobody c.gate (read nobody)) → CourseStep c i x (Access.Gate (GateAccess.Read held nobody))
  unfolding perform access_gate
  at_read held nobody a b =
      CourseStep.continued x refl refl refl
      (put_course B c.gate c.announcements c.records (read (by_holder c.gate.holder held nobody)) x (go c.gate.holder refl))
    where
      go : (h : Option ℕ) → c.gate.holder ≡ h → At (by_holder h held nobody) c.gate (read (by_holder h held nobody))
      go None e = b e
      go (Some m) e = a m e

  pub at-P1 : Now c i x P1 → CourseStep c i x (Access.Gate (GateAccess.Read P3 P3))
  at-P1 q = at_read P3 P3 (λ _ _. omega (arith, q)) (λ _. omega (arith, q))

  pub at-P10 : Now c i x P10 → CourseStep c i x (Access.Gate (GateAccess.Read P16 C2))
  at-P10 q =
      at_read P16 C2 (λ m _. one_more small q c.gate.seq 6 (omega arith) (omega arith) _ _ _ _ _ _)
      (λ _. one_more small q c.gate.seq 2 (omega arith) (omega arith) _ _ _ _ _ _)

  pub at-P14 : Now c i x P14 → CourseStep c i x (Access.Gate (GateAccess.Read P16 P22))
  at-P14 q =
      at_read P16 P22 (λ m _. one_more small q.0 c.gate.seq 6 (omega arith) (omega arith) _ _ _ _ _ _)
      (λ e. (one_more small q.0 c.gate.seq _ (omega arith) (omega arith) _ _ _ _ _ _, q.1 e))

  pub at-F1 : Now c i x F1 → CourseStep c i x (Access.Gate GateAccess.ReadLast)
  unfolding perform access_gate
  at-F1 q =
      CourseStep.continued x refl refl refl
      (on_test (λ l. CourseIn c i x (with_local c i (read l))) (same_holder c.gate.holder (Some i))
      (λ _. put_course B c.gate c.announcements c.records (read F3) x (omega (arith, q)))
      (λ _. put_course B c.gate c.announcements c.records (read Idle) x (omega (arith, q))))

  -- process i at a place, and the course after a swap of the gate
  abbrev at : Label → Local
  at l = at_control (local_at c i) (go_to (local_at c i).control l)

  swapped : (g : Gate) (l : Label) → At l g (at l) → CourseIn c i x (with_local (with_gate c g) i (at l))
  swapped g l q = put_course B g c.announcements c.records (at l) x q

  pub at-P13 : KnownAt c w i P13 → Now c i x P13 → CourseStep c i x (Access.Gate GateAccess.Nominate)
  unfolding perform access_gate swap_gate
  at-P13 k q =
      CourseStep.continued x refl refl refl
      (on_test (λ g. CourseIn c i x (with_local (with_gate c g) i (at P14))) (same_gate c.gate (local_at c i).gate)
      (λ _. swapped (nominated (local_at c i).gate (local_at c i).control.target) P14
      (one_more small q _ 5 (omega arith) (omega arith) _ _ _ _ _ _, λ h. absurd (nobody_process h refl)))
      (λ e. swapped c.gate P14 (one_more small q _ 5 k.3.below (omega arith) _ _ _ _ _ _, free e)))
    where
      -- the swap was lost to another number
      free : same_gate c.gate (local_at c i).gate ≡ false → c.gate.holder ≡ None → Ahead c.process_count c.gate x
      free e h =
          let ne : c.gate.seq ≢ (local_at c i).gate.seq = λ z. same_gate-false _ _ e (gate_path (h ∙ sym k.1) z) in
          omega (arith, q.low, k.3.below)

  pub at-P21 : KnownAt c w i P21 → Now c i x P21 → CourseStep c i x (Access.Gate (GateAccess.Release P22))
  unfolding perform access_gate swap_gate released
  at-P21 k q =
      CourseStep.continued x refl refl refl
      (on_test (λ g. CourseIn c i x (with_local (with_gate c g) i (at P22))) (same_gate c.gate (local_at c i).gate)
      (λ e. let z : c.gate.seq ≡ (local_at c i).gate.seq = ap (λ (g : Gate). g.seq) (same_gate-true _ _ e) in
      swapped (released (local_at c i).gate) P22
      (one_more small q _ _ (omega (arith, B.small)) (omega arith) _ _ _ _ _ _, omega (arith, q.low, B.small)))
      (λ e. let z = released_since B k.0 e in
      swapped c.gate P22 (one_more small q _ _ (omega arith) (omega arith) _ _ _ _ _ _, omega (arith, q.low))))

  pub at-F3 : Now c i x F3 → CourseStep c i x (Access.Gate (GateAccess.Release Idle))
  unfolding perform access_gate swap_gate
  at-F3 q =
      CourseStep.continued x refl refl refl
      (on_test (λ g. CourseIn c i x (with_local (with_gate c g) i (at Idle))) (same_gate c.gate (local_at c i).gate)
      (λ _. swapped (released (local_at c i).gate) Idle (omega (arith, q))) (λ _. swapped c.gate Idle (omega (arith, q))))
