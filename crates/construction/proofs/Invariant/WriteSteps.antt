-- The step of a helper that writes: H36.
use Prim.Native.Nat.{ℕ, suc, ◌<◌}
use mathlib.Core.Path.{◌≡◌, refl, sym, subst, ap, ◌∙◌}
use mathlib.Core.Bool.{true, false, not}
use mathlib.Core.Logic.{◌≢◌, inl, ⊎_elim}
use mathlib.Core.List.{List}
use native.Mathlib.Omega.{arith}
use native.Mathlib.Decide.{dec_lt}
use native.Mathlib.Nat.{eq-or-lt_of_le}
use lib.ListN.{length, get_or, set, length-take}
use lib.Seq.{get_or-set_same, set-get_or, get_or-take}
use lib.Dec.{ltb, eqb}
use borrow.Author.Tests.{ltb-true, eq-eqb}
use Rattle.std.specs.Prelude.{Some}
use Rattle.construction.specs.Types.{Done, Record, Item, Dictionary, H36, Access, Card}
use Rattle.construction.specs.Cells.{open_record, same_record, swap_record, current, rewritten}
use Rattle.construction.specs.Dictionary.{no_item, noted, value_under, altered}
use Rattle.construction.specs.Parts.{announcement_at, record_at, with_record, local_at, with_local}
use Rattle.construction.specs.Machine.{holder_of, write_from, perform, writing}
use Rattle.construction.proofs.Basics.{on_test, true_false, and_true, same_record-true, same_record-false}
use Rattle.construction.proofs.Simulating.Dictionaries.{value_in, all_at, value_at_lem}
use Rattle.construction.proofs.Invariant.World.{ending_in, World, left_in, round_in, word_at, storing, Move, Frame, frame_of}
use Rattle.construction.proofs.Invariant.World.Move.{write}
use Rattle.construction.proofs.Invariant.WorldKept.{phase_at, count_many}
use Rattle.construction.proofs.Invariant.Assertions.{ItemNoted, NoWriteDue, LocAt, helper_stays, plan_stays, fine_stays, finished_stays}
use Rattle.construction.proofs.Invariant.Claims.Change.{kept}
use Rattle.construction.proofs.Invariant.NextWrites.{write_loc}
use Rattle.construction.proofs.Invariant.Acting.{world_of, Before, Acted, acts, at_control, goes_on}

-- the item that is due
module _ {c : Card} {w : World} {i : ℕ} (B : Before c w i) (q : LocAt H36 (frame_of c w) (world_of c w) i (local_at c i)) where
  abbrev W : World
  W = world_of c w

  abbrev F : Frame
  F = frame_of c w

  abbrev s : ℕ
  s = (local_at c i).gate.seq

  abbrev m : ℕ
  m = holder_of (local_at c i).gate.holder

  abbrev d : Dictionary
  d = (local_at c i).dictionary

  abbrev k : ℕ
  k = (local_at c i).control.target

  abbrev item : Item
  item = get_or d.items k no_item

  abbrev v : ℕ
  v = item.variable

  item_is : get_or (noted d) k no_item ≡ item
  item_is =
      get_or-take d.length d.items k no_item (omega (arith, length-take d.length d.items, q.3.inside))

  at_item : (u : World) → NoWriteDue u s item → (j : ℕ) → j ≡ k → NoWriteDue u s (get_or (noted d) j no_item)
  at_item u f j e = subst (NoWriteDue u s) (sym (ap (λ (n : ℕ). get_or (noted d) n no_item) e ∙ item_is)) f

  known : ItemNoted F W s item
  known = subst (ItemNoted F W s) item_is (all_at (ItemNoted F W s) (noted d) k q.2.booked q.3.inside)

  due : (ltb item.cell.seq s ≡ true) × (not (eqb (current item.cell) item.value) ≡ true)
  unfolding altered
  due = and_true (ltb item.cell.seq s) _ (subst (λ (e : Item). altered s e ≡ true) item_is q.3.due)

  -- its value is that of the ending, and another than before
  value : item.value ≡ word_at (ending_in F W s).words v
  value =
      sym
      (q.2.agree v known.inside
      ∙ subst
      (λ (e : Item). value_in (noted d) e.variable (word_at (round_in W s).words e.variable) ≡ e.value) item_is
      (value_at_lem (noted d) k _ q.2.keyed q.3.inside))

  base : current item.cell ≡ word_at (round_in W s).words v
  unfolding value_under
  base = rw due.0 at known.base

  other : word_at (ending_in F W s).words v ≢ word_at (round_in W s).words v
  other e =
      let z : eqb (current item.cell) item.value ≡ true = eq-eqb _ _ (base ∙ (sym e ∙ sym value)) in
      true_false (not (eqb (current item.cell) item.value)) due.1 (rw z)

  -- the card after the swap of the record
  abbrev wrote : Record → Card
  wrote r = with_local (with_record c v r) i (at_control (local_at c i) (write_from s d (suc k)))

  lost : same_record (record_at c v) item.cell ≡ false → Acted c W i (wrote (record_at c v))
  lost e =
      goes_on B _
      (write_loc F W i (local_at c i) (local_at c i).announcement q.0 q.1 (local_at c i).simulation d q.2 (suc k)
      (λ j h. ⊎_elim (at_item W written j) (q.3.before j) (eq-or-lt_of_le (omega arith)))) refl refl
      (set-get_or c.records v (open_record 0))
    where
      written : NoWriteDue W s item
      written = record { fine = inl (⊎_elim (λ y. absurd (same_record-false _ _ e y)) (λ y. y) known.kept) }

  -- an item that is due is written only while the gate is as the helper read it
  module _ (e : same_record (record_at c v) item.cell ≡ true) where
    same : record_at c v ≡ item.cell
    same = same_record-true (record_at c v) item.cell e

    early : (record_at c v).seq < s
    early = rw same (ltb-true _ _ due.0)

    unfinished : s < W.count → ⊥
    unfinished l = other (B.good.recorded.settled s v l known.inside early)

    held : (c.gate.holder ≡ Some m) × (c.gate.seq ≡ s)
    held = q.0.seen.still (go (dec_lt (left_in W m) s))
      where
        go : Dec (left_in W m < s) → left_in W m < s
        go (yes l) = l
        go (no l) =
            let many = count_many c.gate.holder W B.good.phase in
            absurd (unfinished (omega (arith, B.good.left_below m)))

    not_done : (announcement_at c m).flag ≢ Done
    not_done f =
        let ph = phase_at B.good held.0 in
        unfinished (omega (arith, ph.1 f, held.1))

    writes : Move F i W (storing W v item.value)
    writes =
        let zs : c.gate.seq ≡ s = held.1 in
        write m v item.value known.inside held.0 not_done (rw zs early) (rw zs value)

    written : NoWriteDue (storing W v item.value) s item
    unfolding rewritten
    written =
        let fits : v < length c.records = omega (arith, B.good.lengths.records, B.good.fits.narrow, known.inside) in
        record {
          fine = inl (rw (get_or-set_same c.records v (rewritten (record_at c v) item.value c.gate.seq) (open_record 0) fits)
              (omega (arith, held.1)));
        }

    won : Acted c W i (wrote (rewritten item.cell item.value s))
    won =
        acts B writes refl refl refl (ap {B = List Record} (set c.records v) (cc (same, held.1))) _ refl B.tidy
        (write_loc F (storing W v item.value) i (local_at c i) (local_at c i).announcement
        (helper_stays B.good writes kept q.0)
        (plan_stays B.good writes (local_at c i).gate (local_at c i).announcement q.0.seen q.1)
        (local_at c i).simulation d
        (finished_stays B.good writes s q.1.number q.1.below (local_at c i).announcement (local_at c i).simulation d q.2)
        (suc k)
        (λ j h.
        ⊎_elim (at_item _ written j)
        (λ l. fine_stays B.good writes s q.1.number q.1.below (get_or (noted d) j no_item) (q.3.before j l))
        (eq-or-lt_of_le (omega arith))))

  pub at-H36 : Acted c W i (perform Access.Write c i).card
  unfolding perform writing swap_record
  at-H36 = on_test (λ r. Acted c W i (wrote r)) (same_record (record_at c v) item.cell) won lost
