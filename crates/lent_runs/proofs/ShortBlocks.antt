-- 11 of `open`, by its number: a text is refused with 11 exactly if it is accepted and the block has fewer than 1456 words, which then stay as they were. A
-- text's own refusals come first, and none of them is 11.
use Rattle.std.specs.Prelude.{Ok, Err, Option, None, Some}
use Prim.Native.Nat.{ℕ, ◌+◌, ◌<◌}
use mathlib.Core.Path.{◌≡◌, refl, sym, ◌∙◌, ap}
use mathlib.Core.Bool.{Bool, true, false, not}
use mathlib.Core.List.{List}
use native.Mathlib.Omega.{arith}
use lib.Dec.{leb, ltb}
use lib.ListN.{length, get_or}
use borrow.Author.Tests.{lt-leb, leb-false}
use Rattle.grammar.specs.declared.{Found.Found, Four.Four}
use Rattle.grammar.specs.Reading.{has_word, four, field}
use Rattle.construction.specs.declared.{programs.Encoded.Encoded, programs.Format.Format}
use Rattle.construction.specs.Types.{Decoded, CardLine, VarLine, SheetLine, InsLine}
use Rattle.construction.specs.Answers.{Fields, refused_with, verdict_fields, card_line_fields, var_line_fields, sheet_line_fields, ins_line_fields, decoded_fields}
use Rattle.construction.specs.Instructions.{in_range, ranged, unused_zero, each_operand, decode_as, decode, row_of, encoded}
use Rattle.construction.specs.Lines.{card_word, var_word, sheet_word, ins_word, card_fits, judge_card, card_line, judge_var, var_line, judge_sheet, sheet_line, ins_of}
use Rattle.construction.specs.Lines.{judge_ins, ins_line}
use Rattle.construction.specs.Opening.{opened}
use Rattle.construction.specs.TextJudging.{refused_in, Judged}
use Rattle.construction.specs.Types.{Verdict}
use Rattle.construction.proofs.Basics.{on_test}
use Rattle.construction.proofs.Statements.TextRefusals.{text_judged}
use Rattle.lent_text.specs.Opened.{opened_block, judged}
use Rattle.lent_text.proofs.Theorems.{opened_short}

-- fields that are not those of 11
abbrev Other : Fields → Type 0
Other f = f ≡ refused_with 11 → ⊥

abbrev first_number : Fields → ℕ
first_number f = get_or f.numbers 0 0

abbrev first_byte : Fields → ℕ
first_byte f = get_or f.word 0 0

two : Other (refused_with 2)
two e = let z : ◌≡◌ {A = ℕ} 2 11 = ap first_number e in omega arith

three : Other (refused_with 3)
three e = let z : ◌≡◌ {A = ℕ} 3 11 = ap first_number e in omega arith

card_other : (t : List ℕ) (at : ℕ) → Other (card_line_fields (card_line t at))
unfolding card_line judge_card card_line_fields
card_other t at = on_test (λ (x : CardLine). Other (card_line_fields x)) (has_word t at card_word) (λ _. by (four t (at + 5))) (λ _. two)
  where
    by : (x : Option (Found Four)) → Other (card_line_fields (judge_card x))
    by (Some x) =
        on_test (λ (x : CardLine). Other (card_line_fields x)) (card_fits x.value.a x.value.b x.value.c x.value.d)
        (λ _ e. let z : ◌≡◌ {A = ℕ} 99 114 = ap first_byte e in omega arith) (λ _. three)
    by None = two

var_other : (t : List ℕ) (at : ℕ) → Other (var_line_fields (var_line t at))
unfolding var_line judge_var var_line_fields
var_other t at = on_test (λ (x : VarLine). Other (var_line_fields x)) (has_word t at var_word) (λ _. by (field t 10 (at + 4))) (λ _. two)
  where
    by : (x : Option (Found ℕ)) → Other (var_line_fields (judge_var x))
    by (Some x) =
        on_test (λ (x : VarLine). Other (var_line_fields x)) (ltb x.value 4294967296) (λ _ e. let z : ◌≡◌ {A = ℕ} 118 114 = ap first_byte e in omega arith) (λ _. three)
    by None = two

sheet_other : (t : List ℕ) (at : ℕ) → Other (sheet_line_fields (sheet_line t at))
unfolding sheet_line judge_sheet sheet_line_fields
sheet_other t at = on_test (λ (x : SheetLine). Other (sheet_line_fields x)) (has_word t at sheet_word) (λ _. by (field t 10 (at + 6))) (λ _. two)
  where
    by : (x : Option (Found ℕ)) → Other (sheet_line_fields (judge_sheet x))
    by (Some x) =
        on_test (λ (x : SheetLine). Other (sheet_line_fields x)) (in_range 1 32 x.value) (λ _ e. let z : ◌≡◌ {A = ℕ} 115 114 = ap first_byte e in omega arith)
        (λ _. three)
    by None = two

decoded_other : (x : Encoded) (n : ℕ) (o : Option Format) → Other (decoded_fields (decode_as o n x))
unfolding decoded_fields
decoded_other x n None = λ e. let z : ◌≡◌ {A = ℕ} 4 11 = ap first_number e in omega arith
decoded_other x n (Some f) =
    on_test (λ (y : Decoded). Other (decoded_fields y)) (not (each_operand (ranged n) f x))
    (λ _ e. let z : ◌≡◌ {A = ℕ} 12 11 = ap first_number e in omega arith)
    (λ _. on_test (λ (y : Decoded). Other (decoded_fields y)) (not (each_operand unused_zero f x))
    (λ _ e. let z : ◌≡◌ {A = ℕ} 13 11 = ap first_number e in omega arith)
    (λ _ e. let z : ◌≡◌ {A = ℕ} 105 114 = ap first_byte e in omega arith))

ins_other : (n : ℕ) (t : List ℕ) (at : ℕ) → Other (ins_line_fields (ins_line n t at))
unfolding ins_line judge_ins ins_line_fields decoded_fields decode
ins_other n t at = on_test (λ (x : InsLine). Other (ins_line_fields x)) (has_word t at ins_word) (λ _. by (four t (at + 4))) (λ _. two)
  where
    of : (x : Decoded) (i : ℕ) → Other (decoded_fields x) → Other (ins_line_fields (ins_of x i))
    of (Ok x) i h = h
    of (Err why) i h = h

    by : (x : Option (Found Four)) → Other (ins_line_fields (judge_ins n x))
    by (Some x) =
        let v = x.value in
        let e = encoded v.a v.b v.c v.d in
        of (decode n e) x.next (decoded_other e n (row_of v.a).format)
    by None = two

-- no text is refused with 11
text_other : (t : List ℕ) {f : Fields} → Judged t f → (line : ℕ) → f ≡ refused_in line 11 → ⊥
text_other t (Judged.too_long l) line e = let z : ◌≡◌ {A = ℕ} 1 11 = ap first_number e in omega arith
text_other t (Judged.card {number} d h) line e = let z : number ≡ 11 = ap first_number e in card_other t 0 (h ∙ ap refused_with z)
text_other t (Judged.var {number = number} {r = r} d h) line e = let z : number ≡ 11 = ap first_number e in var_other t r.at (h ∙ ap refused_with z)
text_other t (Judged.sheet {number = number} {r = r} d h) line e = let z : number ≡ 11 = ap first_number e in sheet_other t r.at (h ∙ ap refused_with z)
text_other t (Judged.ins {number = number} {r = r} {x = x} d h) line e =
    let z : number ≡ 11 = ap first_number e in ins_other r.contents.variable_count t x.at (h ∙ ap refused_with z)
text_other t (Judged.too_heavy d h) line e = let z : ◌≡◌ {A = ℕ} 14 11 = ap first_number e in omega arith
text_other t (Judged.left_over d h) line e = let z : ◌≡◌ {A = ℕ} 2 11 = ap first_number e in omega arith
text_other t (Judged.accepted d h) line e = let z : ◌≡◌ {A = ℕ} 0 11 = ap first_number e in omega arith

module _ (t b : List ℕ) where
  pub block_too_short :
      (opened t).verdict ≡ Ok tt → length b < 1456 → (verdict_fields (judged (opened t).verdict b) ≡ refused_in 0 11) × (opened_block t b ≡ b)
  unfolding verdict_fields
  block_too_short e p = (rw (e, lt-leb 1456 (length b) p), opened_short t b p)

  pub block_too_short_only :
      (line : ℕ) → verdict_fields (judged (opened t).verdict b) ≡ refused_in line 11 →
      ((opened t).verdict ≡ Ok tt) × (length b < 1456) × (line ≡ 0)
  unfolding verdict_fields
  block_too_short_only line e = by (opened t).verdict refl (leb 1456 (length b)) refl e
    where
      by :
          (v : Verdict) → (opened t).verdict ≡ v → (s : Bool) → leb 1456 (length b) ≡ s → verdict_fields (judged v b) ≡ refused_in line 11 →
          ((opened t).verdict ≡ Ok tt) × (length b < 1456) × (line ≡ 0)
      by (Err e) q s r h = absurd (text_other t (text_judged t) line (ap verdict_fields q ∙ h))
      by (Ok _) q true r h = absurd (let z : ◌≡◌ {A = ℕ} 0 11 = ap first_number (rw r at h) in omega arith)
      by (Ok _) q false r h = (q, leb-false 1456 (length b) r, sym (ap (λ (f : Fields). get_or f.numbers 1 0) (rw r at h)))
