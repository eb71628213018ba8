-- The steps whose access is of the gate: P1, P10, P13, P14, P21, F1, F3.
use Prim.Native.Nat.{ℕ, ◌≤◌, ◌<◌}
use mathlib.Core.Path.{◌≡◌, refl, sym, ap, ◌∙◌}
use mathlib.Core.Bool.{false}
use mathlib.Core.Logic.{◌≢◌, inl, inr, ⊎_elim}
use native.Mathlib.Omega.{arith}
use native.Mathlib.Decide.{dec_lt}
use Rattle.std.specs.Prelude.{Option, None, Some}
use Rattle.construction.specs.Types.{Gate, Done, Announcement, Label, Idle, P1, P3, P10, C2, P13, P14, P16, P21, P22, F1, F3}
use Rattle.construction.specs.Types.{GateAccess, Access, Card}
use Rattle.construction.specs.Cells.{same_holder, same_gate, swap_gate, released}
use Rattle.construction.specs.Parts.{announcement_at, with_gate, local_at, Local, with_local}
use Rattle.construction.specs.Machine.{go_to, by_holder, holder_of, access_gate, perform}
use Rattle.construction.proofs.Basics.{on_test, true_false, gate_path, same_gate-true, same_gate-false, same_holder-true, same_holder-refl, nobody_process}
use Rattle.construction.proofs.Basics.{active_not_done, exit_not_done}
use Rattle.construction.proofs.Invariant.World.{World, announcement_in, result_of, result_in, left_in, freeing, Quiet, Frame, frame_of}
use Rattle.construction.proofs.Invariant.World.Move.{take, free}
use Rattle.construction.proofs.Invariant.Claims.{view_of, Mine, Limit, Returning, Rested, Eligible}
use Rattle.construction.proofs.Invariant.Assertions.{Helper, Loc}
use Rattle.construction.proofs.Invariant.Acting.{world_of, Step, Before, Acted, acts, keeps, at_control, at_gate, goes_on}

-- what is known of an operation at its return
rests :
    (w : World) (i : ℕ) {a : Announcement} → Returning (announcement_in w i) (result_in w i) a → w.gate.holder ≢ Some i →
    Quiet w i × Rested (announcement_in w i) (result_in w i) a
rests w i q ne = (
  record {
    not_active = λ e. active_not_done e q.done;
    free_of = ne;
    late = λ e. absurd (exit_not_done e q.done);
  },
  record { same = q.same; out = λ _. ap result_of q.same ∙ q.out },
)

module _ {c : Card} {w : World} {i : ℕ} (B : Before c w i) where
  abbrev W : World
  W = world_of c w

  abbrev F : Frame
  F = frame_of c w

  -- process i with the gate that it has read
  abbrev read : Label → Local
  read l = at_gate (local_at c i) c.gate (go_to (local_at c i).control l)

  -- the gate is read
  reads : (l : Label) → Loc F W i (read l) → Acted c W i (with_local c i (read l))
  reads l q = keeps B refl refl refl _ refl B.tidy q

  limit_now : Limit (view_of W i) i c.gate.seq
  limit_now = record { low = λ _. B.good.bound_below i; high = λ _ _. omega arith }

  helper_now :
      (m : ℕ) → c.gate.holder ≡ Some m → Mine (view_of W i) (local_at c i).operation → Helper F W i (local_at c i).operation c.gate
  helper_now m e q = record {
    mine = q;
    named = rw e;
    inside = rw e (B.good.inside m e);
    seen = record { still = λ z. (rw e, refl) };
    limit = limit_now;
  }

  -- lines P1, P10 and P14: by the holder that is read
  at_read :
      (held nobody : Label) → ((m : ℕ) → c.gate.holder ≡ Some m → Loc F W i (read held)) →
      (c.gate.holder ≡ None → Loc F W i (read nobody)) → Acted c W i (perform (Access.Gate (GateAccess.Read held nobody)) c i).card
  unfolding perform access_gate
  at_read held nobody a b = reads _ (go c.gate.holder refl)
    where
      go : (h : Option ℕ) → c.gate.holder ≡ h → Loc F W i (read (by_holder h held nobody))
      go None e = b e
      go (Some m) e = a m e

  pub at-P1 : Step c w i P1 (Access.Gate (GateAccess.Read P3 P3))
  at-P1 q = at_read P3 P3 (λ _ _. next) (λ _. next)
    where
      next : Loc F W i (read P3)
      next = (q.0, q.1, B.good.left_below i, omega arith)

  pub at-P10 : Step c w i P10 (Access.Gate (GateAccess.Read P16 C2))
  at-P10 q = at_read P16 C2 (λ m e. helper_now m e q) (λ e. (q, e, omega arith, limit_now))

  pub at-P14 : Step c w i P14 (Access.Gate (GateAccess.Read P16 P22))
  at-P14 q =
      at_read P16 P22 (λ m e. helper_now m e q.0)
      (λ e. (q.0, record { late = λ x. q.1.past x e; free_of = λ _. nobody_process e }))

  pub at-F1 : Step c w i F1 (Access.Gate GateAccess.ReadLast)
  unfolding perform access_gate
  at-F1 q =
      on_test (λ l. Acted c W i (with_local c i (read l))) (same_holder c.gate.holder (Some i))
      (λ e. reads F3 (q, same_holder-true _ _ e, record { only = λ _. refl }))
      (λ e. reads Idle (rests W i q (λ z. true_false _ (rw z (same_holder-refl (Some i))) e)))

  -- process i at a place, and the card after a swap of the gate
  abbrev at : Label → Local
  at l = at_control (local_at c i) (go_to (local_at c i).control l)

  abbrev swapped : Gate → Label → Card
  swapped g l = with_local (with_gate c g) i (at l)

  -- a swap from the gate that was read to g: won where that is still the gate, and else lost
  swaps :
      (g : Gate) (l : Label) → (c.gate ≡ (local_at c i).gate → Acted c W i (swapped g l)) →
      (same_gate c.gate (local_at c i).gate ≡ false → Loc F W i (at l)) →
      Acted c W i (swapped (swap_gate c.gate (local_at c i).gate g).cell l)
  unfolding swap_gate
  swaps g l won lost =
      on_test (λ x. Acted c W i (swapped x l)) (same_gate c.gate (local_at c i).gate) (λ e. won (same_gate-true _ _ e))
      (λ e. goes_on B _ (lost e) refl refl refl)

  -- a swap that released the gate
  frees :
      (m : ℕ) (l : Label) → m < c.process_count → c.gate.holder ≡ Some m → (announcement_at c m).flag ≡ Done →
      c.gate ≡ (local_at c i).gate → Loc F (freeing W m) i (at l) →
      Acted c W i (swapped (released (local_at c i).gate) l)
  unfolding released
  frees m l ml h d z q =
      let zs : c.gate.seq ≡ (local_at c i).gate.seq = ap (λ (g : Gate). g.seq) z in
      let few : c.gate.seq ≤ 1000000000000000000 = B.small in
      acts B (free m ml h d) refl (gate_path refl (omega arith)) refl refl _ refl B.tidy q

  pub at-P13 : Step c w i P13 (Access.Gate GateAccess.Nominate)
  unfolding perform access_gate
  at-P13 q = swaps _ P14 won late
    where
      m : ℕ
      m = (local_at c i).control.target

      late : same_gate c.gate (local_at c i).gate ≡ false → Loc F W i (at P14)
      late e = (
        q.0,
        record {
          past = λ x h.
              let ne : c.gate.seq ≢ (local_at c i).gate.seq = λ z. same_gate-false _ _ e (gate_path (h ∙ sym q.1) z) in
              omega (arith, q.4.low x, q.3.below);
        },
      )

      won : c.gate ≡ (local_at c i).gate → Acted c W i (swapped (record { holder = Some m; seq = (local_at c i).gate.seq }) P14)
      won z =
          let zh : c.gate.holder ≡ None = ap (λ (g : Gate). g.holder) z ∙ q.1 in
          let zs : c.gate.seq ≡ (local_at c i).gate.seq = ap (λ (g : Gate). g.seq) z in
          let E : Eligible W i m (local_at c i).gate.seq = q.3.fit zh zs in
          acts B (take m q.2 zh E.alive E.op (⊎_elim inl (λ b. inr (λ x. rw zs (b x))) E.right)) refl
          (gate_path refl (sym zs)) refl refl _ refl B.tidy
          (q.0, record { past = λ _ h. absurd (nobody_process h refl) })

  -- a helper that does not find the gate as it read it comes after the release of that number
  pub released_since :
      Helper F W i (local_at c i).operation (local_at c i).gate → same_gate c.gate (local_at c i).gate ≡ false →
      (local_at c i).gate.seq < c.gate.seq
  released_since q e = go (dec_lt (left_in W m) (local_at c i).gate.seq)
    where
      m : ℕ
      m = holder_of (local_at c i).gate.holder

      go : Dec (left_in W m < (local_at c i).gate.seq) → (local_at c i).gate.seq < c.gate.seq
      go (yes l) =
          let y = q.seen.still l in
          absurd (same_gate-false _ _ e (gate_path (y.0 ∙ sym q.named) y.1))
      go (no l) = omega (arith, B.good.left_below m)

  pub at-P21 : Step c w i P21 (Access.Gate (GateAccess.Release P22))
  unfolding perform access_gate
  at-P21 q = swaps _ P22 won (λ e. late (released_since q.0 e))
    where
      m : ℕ
      m = holder_of (local_at c i).gate.holder

      won : c.gate ≡ (local_at c i).gate → Acted c W i (swapped (released (local_at c i).gate) P22)
      won z =
          let zh : c.gate.holder ≡ Some m = ap (λ (g : Gate). g.holder) z ∙ q.0.named in
          let zs : c.gate.seq ≡ (local_at c i).gate.seq = ap (λ (g : Gate). g.seq) z in
          frees m P22 q.0.inside zh (q.1.over zh zs) z
          (q.0.mine, record { late = λ x. omega (arith, q.0.limit.low x); free_of = λ _. nobody_process refl })

      late : (local_at c i).gate.seq < c.gate.seq → Loc F W i (at P22)
      late l = (
        q.0.mine,
        record { late = λ x. omega (arith, q.0.limit.low x); free_of = λ x h. omega (arith, q.0.limit.high x h) },
      )

  pub at-F3 : Step c w i F3 (Access.Gate (GateAccess.Release Idle))
  unfolding perform access_gate
  at-F3 q =
      swaps _ Idle
      (λ z. frees i Idle B.inside (ap (λ (g : Gate). g.holder) z ∙ q.1) q.0.done z (rests (freeing W i) i q.0 (nobody_process refl)))
      (λ e. rests W i q.0 (λ z. same_gate-false _ _ e (gate_path (z ∙ sym q.1) (q.2.only z))))
