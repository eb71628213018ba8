-- Every accepted step: after the access of its place a process knows what its next place asks for.
use Prim.Native.Nat.{ℕ}
use mathlib.Core.Path.{◌≡◌, refl}
use mathlib.Core.Bool.{Bool, true, false, true≢false}
use Rattle.construction.specs.Types.{Label, Idle, P1, P3, P5, P7, P10, C2, C4, P13, P14, P16, H21, H36, P19, P20, P21, P22, F1, F3, P6, Card}
use Rattle.construction.specs.Machine.{access_of, perform}
use Rattle.construction.specs.Requests.{is_idle}
use Rattle.construction.proofs.Invariant.World.{World, frame_of}
use Rattle.construction.proofs.Invariant.Assertions.{LocAt, known}
use Rattle.construction.proofs.Invariant.Acting.{world_of, Before, Acted, Chosen}
use Rattle.construction.proofs.Invariant.GateSteps.{at-P1, at-P10, at-P13, at-P14, at-P21, at-F1, at-F3}
use Rattle.construction.proofs.Invariant.AnnouncementSteps.{at-P3, at-P6, at-P7, at-C2, at-C4, at-P19, at-P20, at-P22}
use Rattle.construction.proofs.Invariant.HelpSteps.{at-P16, at-H21}
use Rattle.construction.proofs.Invariant.WriteSteps.{at-H36}
use Rattle.construction.specs.Parts.{local_at}
use Rattle.construction.specs.Changes.{has_read}

module _ {c : Card} {w : World} {i : ℕ} (B : Before c w i) where
  pub at_place :
      (l : Label) (exit : Bool) → is_idle l ≡ false → (has_read l ≡ true → Chosen c w i) → LocAt l (frame_of c w) (world_of c w) i (known (local_at c i)) →
      Acted c (world_of c w) i (perform (access_of l exit) c i).card
  unfolding access_of
  at_place Idle exit n z q = absurd (true≢false n)
  at_place P1 exit n z q = at-P1 B q
  at_place P3 exit n z q = at-P3 B q
  at_place P5 true n z q = at-P6 B q
  at_place P5 false n z q = at-P10 B q.0
  at_place P7 exit n z q = at-P7 B q
  at_place P10 exit n z q = at-P10 B q
  at_place C2 exit n z q = at-C2 B q
  at_place C4 exit n z q = at-C4 B q
  at_place P13 exit n z q = at-P13 B q
  at_place P14 exit n z q = at-P14 B q
  at_place P16 exit n z q = at-P16 B (z refl) q
  at_place H21 exit n z q = at-H21 B (z refl) q
  at_place H36 exit n z q = at-H36 B q
  at_place P19 exit n z q = at-P19 B q
  at_place P20 exit n z q = at-P20 B q
  at_place P21 exit n z q = at-P21 B q
  at_place P22 exit n z q = at-P22 B q
  at_place F1 exit n z q = at-F1 B q
  at_place F3 exit n z q = at-F3 B q
  at_place P6 exit n z q = absurd q
