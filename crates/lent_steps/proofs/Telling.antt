-- A step with its report by what code takes out of the block and the loan.
use Prim.Native.Nat.{ℕ, min}
use mathlib.Core.Path.{◌≡◌, refl, sym, ◌∙◌, ap}
use mathlib.Core.Bool.{true, false}
use mathlib.Core.List.{List, [], ◌∷◌}
use native.Mathlib.Omega.{arith}
use lib.ListN.{get_or}
use types.Run.{OneOf, miss}
use denote.Enum.Declared.{tag_of}
use Rattle.construction.specs.declared.{accesses.Access.Access, answers.Answer.Answer, accesses.Cell.Cell, cells.Gate.Gate, simulations.Item.Item}
use Rattle.construction.specs.declared.{accesses.Label.Label, answers.Report.Report, accesses.Swap.Swap, accesses.Control.Control}
use Rattle.construction.specs.contracts.accesses.Access.{the_type}
use Rattle.construction.specs.Dictionary.{no_item}
use Rattle.construction.specs.Machine.{cell_by}
use Rattle.construction.specs.Answers.{is_refused}
use Rattle.construction.specs.Tracing.{label_of, report_with, no_report}
use Rattle.block.specs.Layout.{process_count_in, control_in, exit_in, last_gate_in, mask_in}
use Rattle.loan.specs.Loans.{held_dictionary}
use Rattle.lent_helping.specs.Steps.{access_loan}
use Rattle.lent_steps.specs.Steps.{step_verdict, access_at, advanced, step_block, step_loan, answer_in, answer_to, item_to, cell_to, swap_to, report_to}
use Rattle.lent_steps.proofs.Judging.{accepted_small, step_refused, step_taken}

-- the cell of an access: only line H36 looks at the item written
unwritten :
    (a : Access) (p i : ℕ) (g : Gate) (v x y : ℕ) → OneOf (0 ∷ 1 ∷ 2 ∷ 3 ∷ 4 ∷ []) (tag_of the_type a) → cell_by a p i g v x ≡ cell_by a p i g v y
unwritten Access.None p i g v x y h = refl
unwritten (Access.Gate a) p i g v x y h = refl
unwritten (Access.Announcement a) p i g v x y h = refl
unwritten Access.Help p i g v x y h = refl
unwritten Access.Note p i g v x y h = refl
unwritten Access.Write p i g v x y h = absurd (miss (0 ∷ 1 ∷ 2 ∷ 3 ∷ 4 ∷ []) 5 tt h)

module _ (b l : List ℕ) (i : ℕ) where
  pub cell_written :
      {a : Access} {t : Control} {e : Item} → t ≡ control_in b i → a ≡ access_at b i → a ≡ Access.Write →
      e ≡ get_or (held_dictionary b l i).items t.target no_item →
      Cell.Record e.variable ≡ cell_to b l i
  cell_written et ea w ee =
      let item : _ ≡ item_to b l i = ee ∙ ap (λ (t : Control). get_or (held_dictionary b l i).items t.target no_item) et in
      ap (λ (e : Item). Cell.Record e.variable) item
      ∙ ap (λ (a : Access). cell_by a (process_count_in b) i (last_gate_in b i) (control_in b i).target (item_to b l i).variable) (sym w ∙ ea)

  pub cell_other :
      {a : Access} {t : Control} {p : ℕ} {g : Gate} {x : Cell} → t ≡ control_in b i → a ≡ access_at b i → OneOf (0 ∷ 1 ∷ 2 ∷ 3 ∷ 4 ∷ []) (tag_of the_type a) →
      p ≡ process_count_in b → g ≡ last_gate_in b i → x ≡ cell_by a p i g t.target 0 → x ≡ cell_to b l i
  cell_other {a} {t} {p} {g} et ea h ep eg ex =
      ex ∙ unwritten a p i g t.target 0 (item_to b l i).variable h ∙ λ j. cell_by (ea j) (ep j) i (eg j) (et j).target (item_to b l i).variable

  pub trace_refused :
      {x : Answer} {r : Report} → x ≡ step_verdict b l i → is_refused x ≡ true → r ≡ no_report →
      (x ≡ answer_to b l i) × (r ≡ report_to b l i) × (b ≡ step_block b l i) × (l ≡ step_loan b l i)
  unfolding report_to
  trace_refused e h er =
      let q : is_refused (step_verdict b l i) ≡ true = sym (ap is_refused e) ∙ h in
      let z = step_refused b l i e h in
      (z.0, rw q er, z.1, z.2)

  pub trace_taken :
      {x y : Answer} {n : ℕ} {label : Label} {cell : Cell} {swap : Swap} {c m : List ℕ} {g : Gate} {mask : ℕ} {r : Report} → x ≡ step_verdict b l i →
      is_refused x ≡ false → n ≡ min i 255 → label ≡ label_of (control_in b n).place (exit_in b n) → cell ≡ cell_to b l n → swap ≡ swap_to b l n →
      c ≡ advanced b l n → m ≡ access_loan (access_at b n) b l n → g ≡ last_gate_in c n → mask ≡ mask_in c n → r ≡ report_with label cell swap g.seq mask →
      y ≡ answer_in c n → (y ≡ answer_to b l i) × (r ≡ report_to b l i) × (c ≡ step_block b l i) × (m ≡ step_loan b l i)
  unfolding report_to
  trace_taken {x} {y} {n} e h en elabel ecell eswap ec em eg emask er ey =
      let q : is_refused (step_verdict b l i) ≡ false = sym (ap is_refused e) ∙ h in
      let p = accepted_small b l i q in
      let z : n ≡ i = omega (arith, en) in
      let w = step_taken b l i e h en ec em ey in
      (w.0, rw q (rw (elabel, ecell, eswap, eg, emask, ec, z) at er), w.1, w.2)
