-- Every accepted step, on the course of its process; and what an operation under way has left.
use Prim.Native.Nat.{ℕ, ◌+◌, ◌*◌, ◌≤◌, ◌<◌}
use mathlib.Core.Path.{◌≡◌}
use mathlib.Core.Bool.{Bool, true, false, true≢false}
use native.Mathlib.Omega.{arith}
use native.Mathlib.Nat.{le_trans}
use lib.ListN.{length-take}
use Rattle.construction.specs.Types.{Gate, Active, Announcement, Label, Idle, P1, P3, P5, P7, P10, C2, C4, P13, P14, P16, H21, H36, P19, P20, P21, P22}
use Rattle.construction.specs.Types.{F1, F3, P6, Card}
use Rattle.construction.specs.Parts.{Local, local_at, announcement_at}
use Rattle.construction.specs.Machine.{access_of}
use Rattle.construction.specs.Requests.{is_idle}
use Rattle.construction.specs.Weight.{weight}
use Rattle.construction.specs.Waits.{longest_wait, extra}
use Rattle.construction.proofs.Invariant.World.{World, Frame, frame_of}
use Rattle.construction.proofs.Invariant.Assertions.{LocAt, known}
use Rattle.construction.proofs.Invariant.Acting.{world_of, Before}
use Rattle.construction.proofs.Waiting.Courses.{Tally, Loop, CourseAt, last_lap}
use Rattle.construction.proofs.Waiting.CourseSteps.{Now, CourseStep}
use Rattle.construction.proofs.Waiting.GateSteps.{at-P1, at-P10, at-P13, at-P14, at-P21, at-F1, at-F3}
use Rattle.construction.proofs.Waiting.AnnouncementSteps.{at-P3, at-P6, at-P7, at-C2, at-C4, at-P19, at-P20, at-P22}
use Rattle.construction.proofs.Waiting.HelpSteps.{at-P16, at-H21, at-H36}

module _ {c : Card} {w : World} {i : ℕ} (B : Before c w i) (small : (local_at c i).steps ≤ 1000000000000000000) (x : Tally)
    (due : (announcement_at c i).flag ≡ Active → (x.spent ≡ 0) × (c.gate.seq ≤ x.turn)) where
  pub at_place :
      (l : Label) (exit : Bool) → (local_at c i).exit ≡ exit → is_idle l ≡ false → LocAt l (frame_of c w) (world_of c w) i (known (local_at c i)) →
      Now c i x l → CourseStep c i x (access_of l exit)
  unfolding access_of
  at_place Idle exit e n k q = absurd (true≢false n)
  at_place P1 exit e n k q = at-P1 B small x q
  at_place P3 exit e n k q = at-P3 B small x q
  at_place P5 true e n k q = at-P6 B small x e q
  at_place P5 false e n k q = at-P10 B small x q.0
  at_place P7 exit e n k q = at-P7 B small x q
  at_place P10 exit e n k q = at-P10 B small x q
  at_place C2 exit e n k q = at-C2 B small x q
  at_place C4 exit e n k q = at-C4 B small x q
  at_place P13 exit e n k q = at-P13 B small x k q
  at_place P14 exit e n k q = at-P14 B small x q
  at_place P16 exit e n k q = at-P16 B small x q
  at_place H21 exit e n k q = at-H21 B small x k q
  at_place H36 exit e n k q = at-H36 B small x k q
  at_place P19 exit e n k q = at-P19 B small x q
  at_place P20 exit e n k q = at-P20 B small x q
  at_place P21 exit e n k q = at-P21 B small x k q
  at_place P22 exit e n k q = at-P22 B small x due q
  at_place F1 exit e n k q = at-F1 B small x q
  at_place F3 exit e n k q = at-F3 B small x q
  at_place P6 exit e n k q = absurd k

-- an operation under way has made fewer steps than it may take
module _ (F : Frame) (heavy : ℕ) (light : (k number : ℕ) → weight (F.program_at k number) ≤ heavy) (w : World) (j : ℕ) (g : Gate) (a : Announcement) (x : Tally)
    (t : Local) where
  abbrev Left : Type 0
  Left = t.steps < longest_wait F.process_count heavy + extra t.exit

  in_loop : {n k : ℕ} → Loop F.process_count heavy n k x t → k ≤ 10 + 2 * heavy → Left
  in_loop q h = omega (arith, last_lap q h)

  pub left : (l : Label) → is_idle l ≡ false → LocAt l F w j (known t) → CourseAt l F.process_count heavy g a x t → Left
  left Idle n k q = absurd (true≢false n)
  left P1 n k q = omega (arith, q)
  left P3 n k q = omega (arith, q)
  left P5 n k q = in_loop q.0 (omega arith)
  left P7 n k q = in_loop q (omega arith)
  left P10 n k q = in_loop q (omega arith)
  left C2 n k q = in_loop q (omega arith)
  left C4 n k q = in_loop q (omega arith)
  left P13 n k q = in_loop q (omega arith)
  left P14 n k q = in_loop q.0 (omega arith)
  left P16 n k q = in_loop q (omega arith)
  left H21 n k q =
      let few : t.dictionary.length < heavy = le_trans k.2.fewer (light t.announcement.program t.gate.seq) in
      in_loop q (omega arith)
  left H36 n k q =
      let few : t.dictionary.length ≤ heavy = le_trans k.2.room.few (light t.announcement.program t.gate.seq) in
      let inside : t.control.target < t.dictionary.length = omega (arith, k.3.inside, length-take t.dictionary.length t.dictionary.items) in
      in_loop q (omega arith)
  left P19 n k q = in_loop q (omega arith)
  left P20 n k q = in_loop q (omega arith)
  left P21 n k q = in_loop q (omega arith)
  left P22 n k q = in_loop q.0 (omega arith)
  left F1 n k q = omega (arith, q)
  left F3 n k q = omega (arith, q)
  left P6 n k q = absurd k
