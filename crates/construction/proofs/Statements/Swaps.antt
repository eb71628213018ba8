-- Of every card and process the report of a step tells whether its swap won (specs/Swaps).
use Prim.Native.Nat.{ℕ}
use mathlib.Core.Path.{◌≡◌, refl}
use mathlib.Core.Bool.{Bool, true, false, cond}
use mathlib.Core.Logic.{◌≢◌}
use mathlib.Core.List.{List}
use lib.ListN.{get_or, set}
use lib.Seq.{set-get_or}
use Rattle.construction.specs.Types.{Gate, Announcement, Record, Label, Idle, P1, P3, P5, P7, P10, C2, C4, P13, P14, P16, H21, H36, P19, P20, P21, P22}
use Rattle.construction.specs.Types.{F1, F3, P6, Card}
use Rattle.construction.specs.Cells.{same_gate, same_announcement, same_record, swap_gate, swap_announcement, swap_record, open_announcement, open_record}
use Rattle.construction.specs.Parts.{local_at, with_steps}
use Rattle.construction.specs.Machine.{access_of, access_gate, access_announcement, outcome, writing, perform, advance, swap_of}
use Rattle.construction.specs.Tracing.{label_of, report_of}
use Rattle.construction.specs.Swaps.{Swapped, SwapAt, TellsSwap}
use Rattle.construction.proofs.Basics.{same_gate-true, same_gate-false, same_announcement-true, same_announcement-false, same_record-true, same_record-false}

-- a cell by itself, and one of an array, by the test of the swap
swapped :
    {A : Type 0} (same : Bool) (found expected new : A) → (same ≡ true → found ≡ expected) → (same ≡ false → found ≢ expected) →
    Swapped (outcome same) found expected found new (cond same new found)
swapped true found expected new y n = Swapped.won refl (y refl) refl
swapped false found expected new y n = Swapped.lost refl (n refl) refl

swapped_in :
    {A : Type 0} (same : Bool) (l : List A) (m : ℕ) (none expected new : A) →
    (same ≡ true → get_or l m none ≡ expected) → (same ≡ false → get_or l m none ≢ expected) →
    Swapped (outcome same) (get_or l m none) expected l (set l m new) (set l m (cond same new (get_or l m none)))
swapped_in true l m none expected new y n = Swapped.won refl (y refl) refl
swapped_in false l m none expected new y n = Swapped.lost refl (n refl) (set-get_or l m none)

module _ (c : Card) (i : ℕ) where
  gate_told :
      (expected new : Gate) →
      Swapped (outcome (swap_gate c.gate expected new).won) c.gate expected c.gate new (swap_gate c.gate expected new).cell
  unfolding swap_gate
  gate_told expected new =
      swapped (same_gate c.gate expected) c.gate expected new (same_gate-true c.gate expected) (same_gate-false c.gate expected)

  announcement_told :
      (m : ℕ) (expected new : Announcement) → let cell = get_or c.announcements m open_announcement in
      Swapped (outcome (swap_announcement cell expected new).won) cell expected c.announcements (set c.announcements m new)
      (set c.announcements m (swap_announcement cell expected new).cell)
  unfolding swap_announcement
  announcement_told m expected new =
      let cell = get_or c.announcements m open_announcement in
      swapped_in (same_announcement cell expected) c.announcements m open_announcement expected new (same_announcement-true cell expected)
      (same_announcement-false cell expected)

  record_told :
      (v : ℕ) (expected new : Record) → let cell = get_or c.records v (open_record 0) in
      Swapped (outcome (swap_record cell expected new).won) cell expected c.records (set c.records v new)
      (set c.records v (swap_record cell expected new).cell)
  unfolding swap_record
  record_told v expected new =
      let cell = get_or c.records v (open_record 0) in
      swapped_in (same_record cell expected) c.records v (open_record 0) expected new (same_record-true cell expected) (same_record-false cell expected)

  -- the access of each place, whatever count of steps follows
  told_at_lem :
      (p : Label) (exit : Bool) (k : ℕ) → let x = perform (access_of p exit) c i in
      SwapAt (label_of p exit) i (local_at c i) x.swap c (with_steps x.card k)
  unfolding access_of perform access_gate access_announcement writing
  told_at_lem Idle exit k = refl
  told_at_lem P1 exit k = refl
  told_at_lem P3 exit k = refl
  told_at_lem P5 true k = announcement_told i _ _
  told_at_lem P5 false k = refl
  told_at_lem P7 exit k = refl
  told_at_lem P10 exit k = refl
  told_at_lem C2 exit k = refl
  told_at_lem C4 exit k = refl
  told_at_lem P13 exit k = gate_told _ _
  told_at_lem P14 exit k = refl
  told_at_lem P16 exit k = refl
  told_at_lem H21 exit k = refl
  told_at_lem H36 exit k = record_told _ _ _
  told_at_lem P19 exit k = announcement_told _ _ _
  told_at_lem P20 exit k = announcement_told _ _ _
  told_at_lem P21 exit k = gate_told _ _
  told_at_lem P22 exit k = refl
  told_at_lem F1 exit k = refl
  told_at_lem F3 exit k = gate_told _ _
  told_at_lem P6 exit k = announcement_told i _ _

pub tells_swap : (c : Card) (i : ℕ) → TellsSwap c i
unfolding report_of advance swap_of
tells_swap c i = told_at_lem c i (local_at c i).control.place (local_at c i).exit _
