-- The accesses of the gate on a block are the machine's on the card that stands there, whatever stands in the block: what is taken out of its words fits
-- them, and so does what the access makes of it.
use Rattle.std.proofs.Common.{◌≡◌, ℕ, ◌≤◌, List, length, sym, ap, ◌∙◌, arith}
use Rattle.construction.specs.Cells.{same_gate, swap_gate, released}
use Rattle.construction.specs.Parts.{local_at, with_gate, with_steps}
use Rattle.construction.specs.Machine.{by_holder, after_last, nominated, read_gate, replace_gate, access_gate, perform}
use Rattle.codes.specs.Types.{Gate, GateAccess, AccessedCell, Access, Card, Label, P14}
use Rattle.codes.proofs.Values.{Fits, nobody_fits, process_fits}
use Rattle.block.specs.Layout.{gate_in, put_gate, control_in, last_gate_in, put_last_gate}
use Rattle.block.specs.Cards.{card_of}
use Rattle.block.proofs.Gets.{gate_is, last_gate_is, control_is}
use Rattle.block.proofs.Puts.{gate_stored}
use Rattle.block.proofs.Fitting.{gate_fits, control_fits}
use Rattle.lent_machine.specs.Accesses.{gate_accessed, if_won, gate_read, gate_swapped, gate_step, next, counted}
use Rattle.lent_machine.proofs.Own.{control_placed, gate_placed, accepted, control_put, gate_put, gate_same, swap_stored}
use Rattle.lent_machine.proofs.Keeping.{Kept, kept_twice, kept_if, gate_kept, last_gate_kept, control_kept}

-- the card after an access of the gate by process i, but for the counts
abbrev gate_card : Card → ℕ → AccessedCell Gate → Card
gate_card c i x = gate_placed (with_gate c x.cell) i x.read x.control

-- the block after an access keeps its length and its text
module _ (b : List ℕ) (i : ℕ) (x : AccessedCell Gate) where
  read_kept : Kept b (gate_read b i x)
  read_kept = kept_twice (last_gate_kept b i x.read) (control_kept (put_last_gate b i x.read) i x.control)

  swapped_kept : Kept b (gate_swapped b i x)
  swapped_kept = kept_twice (kept_if x.swap (gate_kept b x.cell)) (control_kept (if_won x.swap (put_gate b x.cell) b) i x.control)

pub gate_step_kept : (a : GateAccess) (b : List ℕ) (i : ℕ) → Kept b (gate_step a b i)
unfolding gate_step access_gate
gate_step_kept (GateAccess.Read held free) b i = read_kept b i (gate_accessed (GateAccess.Read held free) b i)
gate_step_kept GateAccess.ReadLast b i = read_kept b i (gate_accessed GateAccess.ReadLast b i)
gate_step_kept GateAccess.Nominate b i = swapped_kept b i (gate_accessed GateAccess.Nominate b i)
gate_step_kept (GateAccess.Release next) b i = swapped_kept b i (gate_accessed (GateAccess.Release next) b i)

module _ (b l : List ℕ) (i : ℕ) where
  -- what is taken out is what the machine's access has
  gate_named : (a : GateAccess) → gate_accessed a b i ≡ access_gate a i (card_of b l).gate (local_at (card_of b l) i).gate (local_at (card_of b l) i).control
  gate_named a =
      let cell = gate_is b l in
      let last = last_gate_is b l i in
      let control = control_is b l i in
      λ j. access_gate a i (cell j) (last j) (control j)

  -- the machine's swap
  pub gate_swap_is : (a : GateAccess) → (perform (Access.Gate a) (card_of b l) i).swap ≡ (gate_accessed a b i).swap
  unfolding perform
  gate_swap_is a = ap (λ (x : AccessedCell Gate). x.swap) (sym (gate_named a))

  module _ (long : 1456 ≤ length b) where
    -- the gate is read: it stays as it was
    read_is :
        (place : Label) → let x = read_gate (gate_in b) (control_in b i) place in card_of (gate_read b i x) l ≡ gate_card (card_of b l) i x
    read_is place =
        let x = read_gate (gate_in b) (control_in b i) place in
        gate_put b l long i x.read x.control (gate_fits b) (control_fits b i) ∙ ap (λ (k : Card). gate_placed k i x.read x.control) (gate_same b l)

    -- it is swapped from the gate last read, which stays as it was, to another
    swapped_is :
        (new : Gate) (place : Label) → Fits new.holder →
        let x = replace_gate (gate_in b) (last_gate_in b i) (control_in b i) new place in card_of (gate_swapped b i x) l ≡ gate_card (card_of b l) i x
    unfolding swap_gate
    swapped_is new place f =
        let g = last_gate_in b i in
        let x = replace_gate (gate_in b) g (control_in b i) new place in
        let c = card_of b l in
        let stored : card_of (if_won x.swap (put_gate b x.cell) b) l ≡ with_gate c x.cell =
        swap_stored b l (put_gate b) (with_gate c) new (gate_in b) (same_gate (gate_in b) g) (gate_stored b l long new f) (gate_same b l) in
        let size = (kept_if x.swap (gate_kept b x.cell)).size in
        let last = last_gate_is b l i in
        control_put (if_won x.swap (put_gate b x.cell) b) l (omega arith) i x.control (control_fits b i)
        ∙ ap (λ (k : Card). control_placed k i x.control) stored
        ∙ λ j. gate_placed (with_gate c x.cell) i (sym last j) x.control

    gate_placed_lem : (a : GateAccess) → card_of (gate_step a b i) l ≡ gate_card (card_of b l) i (gate_accessed a b i)
    unfolding gate_step access_gate released
    gate_placed_lem (GateAccess.Read held free) = read_is (by_holder (gate_in b).holder held free)
    gate_placed_lem GateAccess.ReadLast = read_is (after_last (gate_in b).holder i)
    gate_placed_lem GateAccess.Nominate = swapped_is (nominated (last_gate_in b i) (control_in b i).target) P14
        (process_fits (control_in b i).target (control_fits b i))
    gate_placed_lem (GateAccess.Release place) = swapped_is (released (last_gate_in b i)) place nobody_fits

    -- AN ACCEPTED STEP AT THE GATE (lines P1, P10, P13, P14, P21, F1, F3): the block after it holds what `advance` makes of the card that it held
    pub gate_step_is :
        (a : GateAccess) → card_of (counted (gate_step a b i) i) l ≡ with_steps (perform (Access.Gate a) (card_of b l) i).card (next (card_of b l).steps)
    unfolding perform
    gate_step_is a =
        let c = card_of b l in
        let o = local_at c i in
        let x = access_gate a i c.gate o.gate o.control in
        let size = (gate_step_kept a b i).size in
        accepted (gate_step a b i) l (omega arith) i (with_gate c x.cell) x.control x.read o.announcement o.simulation o.dictionary o.mask
        (gate_placed_lem a ∙ ap (gate_card c i) (gate_named a))
