-- The accesses of a helper, over the values that are taken out of the block and the loan
use Prim.Native.Nat.{ℕ, ◌<◌, ◌≤◌}
use mathlib.Core.Path.{◌≡◌, sym, ◌∙◌, ap}
use mathlib.Core.Bool.{Bool, true, false, cond}
use mathlib.Core.List.{List}
use lib.Dec.{ltb}
use borrow.Author.Tests.{lt-ltb, le-ltb}
use Rattle.construction.specs.declared.accesses.Swap.{Swap}
use Rattle.construction.specs.declared.cells.SwappedCell.{SwappedCell}
use Rattle.construction.specs.declared.accesses.Writing.{Writing}
use Rattle.construction.specs.Dictionary.{item_of}
use Rattle.construction.specs.Machine.{go_to, holder_of, helps, writing, write, outcome}
use Rattle.codes.specs.Types.{Gate, Announcement, Record, Item, Control, P19}
use Rattle.block.specs.Layout.{announcement_in, record_in, control_in, put_control, last_gate_in}
use Rattle.loan.specs.Loans.{held_dictionary}
use Rattle.lent_helping.specs.Helps.{number_in, helped_in, help_begun, help_passed, help_step, lacked_in, noted_block, noted_loan, note_block, note_loan, writing_in}
use Rattle.lent_helping.specs.Helps.{written_in, record_swapped, write_step}

-- by a test
by_true : {A : Type 0} {t : Bool} (x y : A) → t ≡ true → x ≡ cond t x y
by_true x y p = sym (ap (λ (z : Bool). cond z x y) p)

by_false : {A : Type 0} {t : Bool} (x y : A) → t ≡ false → y ≡ cond t x y
by_false x y p = sym (ap (λ (z : Bool). cond z x y) p)

-- lines P16 to P18
module _ (b : List ℕ) (i : ℕ) {g : Gate} {m : ℕ} {cell : Announcement} {t : Bool}
    (pg : g ≡ last_gate_in b i) (pm : m ≡ holder_of g.holder) (pc : cell ≡ announcement_in b m) (pt : t ≡ helps cell g.seq) where
  helped_found : cell ≡ helped_in b i
  helped_found = pc ∙ ap (λ (z : ℕ). announcement_in b z) (pm ∙ ap (λ (z : Gate). holder_of z.holder) pg)

  helped_tested : t ≡ helps (helped_in b i) (number_in b i)
  helped_tested = let found = helped_found in pt ∙ λ j. helps (found j) (pg j).seq

  pub begun_in_lem : {e : List ℕ} → t ≡ true → e ≡ help_begun b i g.seq cell → e ≡ help_step b i
  unfolding help_step
  begun_in_lem p pe =
      let found = helped_found in
      pe ∙ (λ j. help_begun b i (pg j).seq (found j))
      ∙ by_true (help_begun b i (number_in b i) (helped_in b i)) (help_passed b i (helped_in b i)) (sym helped_tested ∙ p)

  pub passed_in : {e : List ℕ} → t ≡ false → e ≡ help_passed b i cell → e ≡ help_step b i
  unfolding help_step
  passed_in p pe =
      pe ∙ ap (λ (a : Announcement). help_passed b i a) helped_found
      ∙ by_false (help_begun b i (number_in b i) (helped_in b i)) (help_passed b i (helped_in b i)) (sym helped_tested ∙ p)

-- lines H21 to H25
module _ (b l : List ℕ) (i : ℕ) {g : Gate} {control : Control} {cell : Record}
    (pg : g ≡ last_gate_in b i) (pt : control ≡ control_in b i) (pc : cell ≡ record_in b control.target) where
  lacked_found : cell ≡ lacked_in b i
  lacked_found = pc ∙ λ j. record_in b (pt j).target

  pub newer_in : {e : List ℕ} → g.seq < cell.seq → e ≡ put_control b i (go_to (control_in b i) P19) → (e ≡ note_block b l i) × (l ≡ note_loan b l i)
  unfolding note_block note_loan
  newer_in p pe =
      let found = lacked_found in
      let newer = sym (λ j. ltb (pg j).seq (found j).seq) ∙ lt-ltb g.seq cell.seq p in (
        pe ∙ by_true _ _ newer,
        by_true _ _ newer,
      )

  pub noted_in :
      {item : Item} {e m : List ℕ} → cell.seq ≤ g.seq → item ≡ item_of g.seq control.target cell →
      (e ≡ noted_block b l i g.seq item) × (m ≡ noted_loan b l i g.seq item) → (e ≡ note_block b l i) × (m ≡ note_loan b l i)
  unfolding note_block note_loan
  noted_in p pi pe =
      let found = lacked_found in
      let older = sym (λ j. ltb (pg j).seq (found j).seq) ∙ le-ltb g.seq cell.seq p in
      let item = pi ∙ (λ j. item_of (pg j).seq (pt j).target (found j)) in (
        pe.0 ∙ (λ j. noted_block b l i (pg j).seq (item j)) ∙ by_false _ _ older,
        pe.1 ∙ (λ j. noted_loan b l i (pg j).seq (item j)) ∙ by_false _ _ older,
      )

-- line H36
pub written_in_lem :
    (b l : List ℕ) (i : ℕ) {g : Gate} {control : Control} {x : Writing} {cell : Record} {s : SwappedCell Record} {c e : List ℕ} {r : Swap} →
    g ≡ last_gate_in b i → control ≡ control_in b i → x ≡ writing g.seq control (held_dictionary b l i) → cell ≡ record_in b x.item.variable →
    s ≡ write cell x.item g.seq → c ≡ record_swapped b x.item.variable s → e ≡ put_control c i x.control → r ≡ outcome s.won →
    (e ≡ write_step b l i) × (r ≡ outcome (written_in b l i).won)
unfolding write_step
written_in_lem b l i {g} {control} {x} {cell} {s} pg pt px pc ps pb pe pr =
    let item : x ≡ writing_in b l i = px ∙ (λ j. writing (pg j).seq (pt j) (held_dictionary b l i)) in
    let found = pc ∙ (λ j. record_in b (item j).item.variable) in
    let swapped : s ≡ written_in b l i = ps ∙ (λ j. write (found j) (item j).item (pg j).seq) in (
      pe ∙ (λ j. put_control (pb j) i x.control) ∙ λ j. put_control (record_swapped b (item j).item.variable (swapped j)) i (item j).control,
      pr ∙ ap (λ (y : SwappedCell Record). outcome y.won) swapped,
    )
