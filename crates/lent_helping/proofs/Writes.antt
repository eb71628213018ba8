-- A record written on a block (line H36) is the machine's write on the card that stands in the block and the loan, where the loan has the items of the process
use Prim.Native.Nat.{ℕ, suc, ◌<◌, ◌≤◌}
use mathlib.Core.Path.{◌≡◌, refl, sym, ◌∙◌, ap}
use mathlib.Core.Bool.{Bool, true, false, cond}
use mathlib.Core.List.{List}
use native.Mathlib.Omega.{arith}
use lib.ListN.{length}
use Rattle.construction.specs.declared.{cells.Record.Record, cells.SwappedCell.SwappedCell}
use Rattle.construction.specs.declared.accesses.Writing.{Writing}
use Rattle.construction.specs.Cells.{same_record, swap_record, rewritten}
use Rattle.construction.specs.Parts.{local_at, record_at, with_record, with_steps}
use Rattle.construction.specs.Machine.{outcome, writing, write, perform}
use Rattle.codes.specs.Types.{Item, Access, Card}
use Rattle.codes.proofs.Values.{FitsItem, FitsRecord}
use Rattle.block.specs.Layout.{record_in, put_record, control_in}
use Rattle.block.specs.Cards.{card_of}
use Rattle.block.proofs.Gets.{record_is, control_is, last_gate_is, dictionary_is}
use Rattle.block.proofs.Puts.{record_stored}
use Rattle.block.proofs.Fitting.{dictionary_fits}
use Rattle.loan.specs.Loans.{has_items, span_in, held_dictionary}
use Rattle.loan.proofs.Held.{noted_length}
use Rattle.loan.proofs.Spans.{span_fits}
use Rattle.loan.proofs.Pauses.{write_narrow}
use Rattle.loan.proofs.Kept.{held_is}
use Rattle.lent_machine.specs.Accesses.{next, counted}
use Rattle.lent_machine.proofs.Own.{control_placed, accepted, control_put, record_same, swap_stored}
use Rattle.lent_machine.proofs.Keeping.{kept_if, record_kept}
use Rattle.lent_helping.specs.Helps.{number_in, writing_in, written_in, record_swapped, write_step}
use Rattle.lent_helping.proofs.Keeps.{write_step_kept}

either {ℓ κ} : {A : Type ℓ} (P : A → Type κ) (t : Bool) {x y : A} → P x → P y → P (cond t x y)
either P true p q = p
either P false p q = q

-- what is written fits, and so does where the process goes on
rewritten_fits : (e : Item) (number : ℕ) → FitsItem e → FitsRecord (rewritten e.cell e.value number)
unfolding rewritten
rewritten_fits e number f =
    record {
      val0 = either (λ (x : ℕ). x < 4294967296) e.cell.toggle f.value f.val0;
      val1 = either (λ (x : ℕ). x < 4294967296) e.cell.toggle f.val1 f.value;
    }

module _ (b l : List ℕ) (i : ℕ) where
  item_fits : FitsItem (writing_in b l i).item
  unfolding writing
  item_fits = dictionary_fits l (span_in b l i).base (span_in b l i).end (control_in b i).target

  target_fits : i < 256 → (writing_in b l i).control.target < 256
  unfolding writing
  target_fits p =
      let fits = span_fits b l i p (span_in b l i) refl in
      let few = noted_length l (span_in b l i).base (span_in b l i).end fits.end in
      write_narrow (number_in b i) (held_dictionary b l i) (suc (control_in b i).target) (omega (arith, fits.end))

  module _ (long : 1456 ≤ length b) where
    -- the record of the item is swapped, and stored where the swap won
    swapped_is :
        let v = (writing_in b l i).item.variable in
        card_of (record_swapped b v (written_in b l i)) l ≡ with_record (card_of b l) v (written_in b l i).cell
    unfolding swap_record
    swapped_is =
        let e = (writing_in b l i).item in
        let v = e.variable in
        let new = rewritten e.cell e.value (number_in b i) in
        swap_stored b l (put_record b v) (with_record (card_of b l) v) new (record_in b v) (same_record (record_in b v) e.cell)
        (record_stored b l long v new (rewritten_fits e (number_in b i) item_fits)) (record_same b l v)

    -- the card after the access, but for the counts
    abbrev written_card : Writing → SwappedCell Record → Card
    written_card x s = control_placed (with_record (card_of b l) x.item.variable s.cell) i x.control

    write_placed : i < 256 → card_of (write_step b l i) l ≡ written_card (writing_in b l i) (written_in b l i)
    unfolding write_step
    write_placed p =
        let x = writing_in b l i in
        let s = written_in b l i in
        let size = (kept_if (outcome s.won) (record_kept b x.item.variable s.cell)).size in
        control_put (record_swapped b x.item.variable s) l (omega arith) i x.control (target_fits p)
        ∙ ap (λ (k : Card). control_placed k i x.control) swapped_is

    module _ (p : i < 256) (has : has_items b l i ≡ true) where
      writing_named : writing_in b l i ≡ (let o = local_at (card_of b l) i in writing o.gate.seq o.control o.dictionary)
      writing_named =
          let gate = last_gate_is b l i in
          let control = control_is b l i in
          let d = held_is b l i has ∙ dictionary_is b l i in
          λ j. writing (gate j).seq (control j) (d j)

      written_named :
          written_in b l i
          ≡ (let o = local_at (card_of b l) i in
          let e = (writing o.gate.seq o.control o.dictionary).item in
          write (record_at (card_of b l) e.variable) e o.gate.seq)
      written_named =
          let x = writing_named in
          let gate = last_gate_is b l i in
          let cell = record_is b l (writing_in b l i).item.variable ∙ (λ j. record_at (card_of b l) (x j).item.variable) in
          λ j. write (cell j) (x j).item (gate j).seq

      -- the machine's swap
      pub write_swap_is : (perform Access.Write (card_of b l) i).swap ≡ outcome (written_in b l i).won
      unfolding perform
      write_swap_is = ap (λ (x : SwappedCell Record). outcome x.won) (sym written_named)

      -- AN ACCEPTED STEP THAT WRITES A RECORD (line H36): the block after it holds what `advance` makes of the card that it held with the loan
      pub write_step_is : card_of (counted (write_step b l i) i) l ≡ with_steps (perform Access.Write (card_of b l) i).card (next (card_of b l).steps)
      unfolding perform
      write_step_is =
          let c = card_of b l in
          let o = local_at c i in
          let x = writing o.gate.seq o.control o.dictionary in
          let s = write (record_at c x.item.variable) x.item o.gate.seq in
          let size = (write_step_kept b l i).size in
          let named = writing_named in
          let swapped = written_named in
          accepted (write_step b l i) l (omega arith) i (with_record c x.item.variable s.cell) x.control o.gate o.announcement
          o.simulation o.dictionary o.mask
          (write_placed p ∙ λ j. written_card (named j) (swapped j))
