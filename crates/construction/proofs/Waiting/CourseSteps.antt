-- A step of process i: what is to be shown of its course after the access, and how a step within an iteration adds to it.
use Prim.Native.Nat.{ℕ, ◌≤◌, ◌<◌}
use mathlib.Core.Path.{◌≡◌, sym, subst}
use mathlib.Core.Bool.{false}
use mathlib.Core.Logic.{◌≢◌}
use mathlib.Core.List.{List}
use native.Mathlib.Omega.{arith}
use lib.ListN.{get_or}
use Rattle.construction.specs.Types.{Gate, Active, Announcement, Record, Dictionary, Simulation, Label, Access, Control, Card}
use Rattle.construction.specs.Cells.{open_announcement}
use Rattle.construction.specs.Parts.{Local, local_at, contents_of, announcement_at, with_cells, with_local}
use Rattle.construction.specs.Machine.{after, first_choice, perform}
use Rattle.construction.specs.Weight.{card_weight}
use Rattle.construction.proofs.Invariant.World.{World, frame_of}
use Rattle.construction.proofs.Invariant.Locals.{local_same}
use Rattle.construction.proofs.Invariant.Acting.{world_of, Before, place_fits}
use Rattle.construction.proofs.Invariant.Assertions.{LocAt}
use Rattle.construction.proofs.Invariant.Stages.{is_announcing}
use Rattle.construction.proofs.Waiting.Courses.{Tally, Loop, CourseAt}

-- the course of process i on a card d
abbrev pub CourseIn : Card → ℕ → Tally → Card → Type 0
CourseIn c i y d =
    CourseAt (local_at d i).control.place c.process_count (card_weight (contents_of c)) d.gate (announcement_at d i) y (local_at d i)

-- what process i knows at a place, and its course there, on the card as it is
abbrev pub KnownAt : Card → World → ℕ → Label → Type 0
KnownAt c w i l = LocAt l (frame_of c w) (world_of c w) i (local_at c i)

abbrev pub Now : Card → ℕ → Tally → Label → Type 0
Now c i x l = CourseAt l c.process_count (card_weight (contents_of c)) c.gate (announcement_at c i) x (local_at c i)

-- what an access comes to for a process with the tally x: it announces its operation (P3), asks to exit (P6), or neither
pub data CourseStep (c : Card) (i : ℕ) (x : Tally) (a : Access) : Type 0 where
  announced :
      (y : Tally) → (perform a c i).card.gate.seq < y.turn → first_choice y.turn c.process_count ≡ i → y.spent ≡ 0 →
      CourseIn c i y (perform a c i).card → CourseStep c i x a
  withdrew :
      (y : Tally) → (announcement_at (perform a c i).card i).flag ≢ Active → CourseIn c i y (perform a c i).card → CourseStep c i x a
  continued :
      (y : Tally) → is_announcing a ≡ false → y.turn ≡ x.turn → y.spent ≡ x.spent → CourseIn c i y (perform a c i).card →
      CourseStep c i x a

-- one step more in the same iteration
pub one_more :
    {p w n k : ℕ} {x : Tally} {t : Local} → t.steps ≤ 1000000000000000000 → Loop p w n k x t → (m l : ℕ) → n ≤ m → k < l →
    (s : Control) (g : Gate) (a : Announcement) (z : Simulation) (d : Dictionary) (mask : ℕ) → Loop p w m l x (after t s g a z d mask)
one_more few q m l le lt s g a z d mask =
    record { few = q.few; low = omega (arith, q.low); wished = q.wished; cost = omega (arith, q.cost) }

module _ {c : Card} {w : World} {i : ℕ} (B : Before c w i) where
  -- process i is put back with the own state t
  pub put_course :
      (g : Gate) (l : List Announcement) (r : List Record) (t : Local) (y : Tally) →
      CourseAt t.control.place c.process_count (card_weight (contents_of c)) g (get_or l i open_announcement) y t →
      CourseIn c i y (with_local (with_cells c g l r) i t)
  put_course g l r t y q =
      subst
      (λ (s : Local). CourseAt s.control.place c.process_count (card_weight (contents_of c)) g (get_or l i open_announcement) y s)
      (sym (local_same (with_cells c g l r) i t B.sizes (place_fits B))) q
