-- A report put into a buffer part by part, and how far it reaches.
use mathlib.Core.Path.{◌≡◌, refl, ◌∙◌, ap}
use mathlib.Core.List.{List, [], ◌∷◌, append-nil}
use Prim.Native.Nat.{ℕ, ◌≤◌}
use native.Mathlib.Omega.{arith}
use borrow.Author.Tests.{ne_eqb}
use Rattle.grammar.specs.Writing.{decimal, largest, Put}
use Rattle.grammar.proofs.Puts.{Room, rest_all, rest_step, rest_last, put_both}
use Rattle.construction.specs.declared.{accesses.Label.Label, accesses.LabelRow.LabelRow, answers.Report.Report}
use Rattle.construction.specs.Answers.{numbers_text}
use Rattle.construction.specs.Labels.{label_row}
use Rattle.construction.specs.Reports.{label_text, cell_text, swap_byte, report_text}
use Rattle.answers.proofs.Texts.{PutWithin, put_short, put_word_number}

-- a comma and a byte, and a label after it
module _ {b : List ℕ} {at i j : ℕ} {y z : List ℕ} where
  pub put_letter : (x : ℕ) → Room b at → Put b at (44 ∷ []) i y → Put y i (x ∷ []) j z → PutWithin b at (44 ∷ x ∷ []) j z 2
  put_letter x h p q = put_short 2 (put_both h p q) (omega arith)

  pub put_label :
      (l : Label) (x : LabelRow) → x ≡ label_row l → Room b at → x.number ≤ largest → PutWithin b at (44 ∷ x.letter ∷ []) i y 2 →
      Put y i (decimal x.number) j z → PutWithin b at (label_text l) j z 22
  put_label l x e h k p q = rw (← e) (put_word_number (44 ∷ x.letter ∷ []) x.number h k p.0 q)

-- no access
pub put_none : {b : List ℕ} {at : ℕ} {x : LabelRow} (r : Report) → x ≡ label_row r.label → x.letter ≡ 0 → at ≤ largest →
    PutWithin b at (report_text r) at b 109
unfolding report_text
put_none r e z h = rw (← e, z) (record { place = omega arith; bytes = refl }, omega arith)

-- a report
module _ {b : List ℕ} {at i₁ i₂ i₃ i₄ i₅ j : ℕ} {y₁ y₂ y₃ y₄ y₅ z : List ℕ} (r : Report) where
  pub put_report :
      (x : LabelRow) (w : ℕ) → x ≡ label_row r.label → (x.letter ≡ 0 → ⊥) → w ≡ swap_byte r.swap → Room b at →
      PutWithin b at (label_text r.label) i₁ y₁ 22 → PutWithin y₁ i₁ (cell_text r.cell) i₂ y₂ 22 → PutWithin y₂ i₂ (44 ∷ w ∷ []) i₃ y₃ 2 →
      PutWithin y₃ i₃ (44 ∷ decimal r.number) i₄ y₄ 21 → PutWithin y₄ i₄ (44 ∷ decimal r.noted) i₅ y₅ 21 →
      PutWithin y₅ i₅ (44 ∷ decimal r.count) j z 21 → PutWithin b at (report_text r) j z 109
  unfolding report_text numbers_text
  put_report x w e n s h p₁ p₂ p₃ p₄ p₅ p₆ =
      let l₁ = p₁.1 in
      let l₂ = p₂.1 in
      let l₃ = p₃.1 in
      let l₄ = p₄.1 in
      let l₅ = p₅.1 in
      let l₆ = p₆.1 in
      rw (ne_eqb (label_row r.label).letter 0 (λ z. n (ap (λ (y : LabelRow). y.letter) e ∙ z)), ← s, append-nil (decimal r.count))
      (rest_last (rest_step (rest_step (rest_step (rest_step (rest_step (rest_all b at _ h) p₁.0) p₂.0) p₃.0) p₄.0) p₅.0) p₆.0, omega arith)
