-- Rows 2, 3, 4, 12 and 13 of 'Turned back' (document 01; document 02, order 8), line by line: each is given, by its number, when its condition holds
-- and no lower one of that line does; otherwise the line yields its fields. A line is known by its text: the word, the numbers as they are written,
-- of any length, and byte 10; one at whose place no such text stands, as one that is missing, has the wrong form.
use Prim.Native.Nat.{ℕ, ◌+◌, ◌≤◌, ◌<◌, min}
use mathlib.Core.Path.{◌≡◌, refl, ap, ◌∙◌}
use mathlib.Core.Bool.{true, false}
use mathlib.Core.Logic.{◌≢◌, ◌⊎◌, ⊎_elim}
use mathlib.Core.List.{List, [], ◌∷◌}
use native.Mathlib.Omega.{arith}
use lib.ListN.{length}
use borrow.Author.Tests.{lt-ltb, le-ltb}
use Rattle.grammar.specs.Reading.{found, most, has_word}
use Rattle.std.specs.Prelude.{None, Some, Ok}
use Rattle.construction.specs.Types.{OperandKind, Format, Encoded, CardLine, VarLine, SheetLine, InsLine}
use Rattle.construction.specs.Answers.{fields, refused_with, card_line_fields, var_line_fields, sheet_line_fields, encoded_fields, decoded_fields, ins_line_fields}
use Rattle.construction.specs.Instructions.{in_range, codes, row_of, kinds, instruction_of, ranged, unused_zero, each_operand, decode, encoded}
use Rattle.construction.specs.Lines.{card_numbers, card_word, var_word, sheet_word, ins_word, card_fits, card_line, judge_card, var_line, judge_var, sheet_line, judge_sheet}
use Rattle.construction.specs.Lines.{ins_of, ins_line, judge_ins, card_text, var_text, sheet_text, encoded_text}
use Rattle.construction.proofs.Basics.{on_test, clash}
use Rattle.construction.proofs.Text.Lines.{range_true, card_fits_lem}
use Rattle.construction.proofs.Text.Decoding.{rows_at, decoded_encodes}
use Rattle.construction.proofs.Text.Forms.{field_found, field_none, four_found, four_none, range_kept, fits_kept, ranged_kept, unused_kept, code_past}
use Rattle.construction.proofs.Text.Forms.{code_kept}

module _ (t : List ℕ) (at : ℕ) where
  -- `card,p,n,s,limit`
  pub card_line_malformed : ((p n s l : ℕ) → has_word t at (card_text p n s l) ≡ false) → card_line_fields (card_line t at) ≡ refused_with 2
  unfolding card_text card_line judge_card card_line_fields
  card_line_malformed none =
      on_test (λ (z : CardLine). card_line_fields z ≡ refused_with 2) (has_word t at card_word) (λ w. rw (four_none t card_word at none w)) (λ _. refl)

  module _ (p n s l : ℕ) (there : has_word t at (card_text p n s l) ≡ true) where
    pub card_line_range : card_fits p n s l ≡ false → card_line_fields (card_line t at) ≡ refused_with 3
    unfolding card_text card_line judge_card card_line_fields
    card_line_range out =
        let f = four_found t card_word at p n s l there in
        rw (f.0, f.1, fits_kept p n s l ∙ out)

    pub card_line_good : card_fits p n s l ≡ true → card_line t at ≡ Ok (found (card_numbers p n s l) (at + length (card_text p n s l)))
    unfolding card_text card_line judge_card
    card_line_good fits =
        let f = four_found t card_word at p n s l there in
        let b = card_fits_lem p n s l fits in
        let ep : min most p ≡ p = omega (arith, b.process_count) in
        let en : min most n ≡ n = omega (arith, b.variable_count) in
        let es : min most s ≡ s = omega (arith, b.program_count) in
        let el : min most l ≡ l = omega (arith, b.limit) in
        rw (f.0, f.1, fits_kept p n s l ∙ fits, ep, en, es, el)

  -- `var,value`
  pub var_line_malformed : ((v : ℕ) → has_word t at (var_text v) ≡ false) → var_line_fields (var_line t at) ≡ refused_with 2
  unfolding var_text var_line judge_var var_line_fields
  var_line_malformed none =
      on_test (λ (z : VarLine). var_line_fields z ≡ refused_with 2) (has_word t at var_word) (λ w. rw (field_none t var_word at none w)) (λ _. refl)

  module _ (v : ℕ) (there : has_word t at (var_text v) ≡ true) where
    pub var_line_range : 4294967296 ≤ v → var_line_fields (var_line t at) ≡ refused_with 3
    unfolding var_text var_line judge_var var_line_fields
    var_line_range out =
        let f = field_found t var_word at v there in
        rw (f.0, f.1, le-ltb (min most v) 4294967296 (omega arith))

    pub var_line_good : v < 4294967296 → var_line t at ≡ Ok (found v (at + length (var_text v)))
    unfolding var_text var_line judge_var
    var_line_good fits =
        let f = field_found t var_word at v there in
        let e : min most v ≡ v = omega arith in
        rw (f.0, f.1, e, lt-ltb v 4294967296 fits)

  -- `sheet,length`
  pub sheet_line_malformed : ((m : ℕ) → has_word t at (sheet_text m) ≡ false) → sheet_line_fields (sheet_line t at) ≡ refused_with 2
  unfolding sheet_text sheet_line judge_sheet sheet_line_fields
  sheet_line_malformed none =
      on_test (λ (z : SheetLine). sheet_line_fields z ≡ refused_with 2) (has_word t at sheet_word) (λ w. rw (field_none t sheet_word at none w)) (λ _. refl)

  module _ (m : ℕ) (there : has_word t at (sheet_text m) ≡ true) where
    pub sheet_line_range : in_range 1 32 m ≡ false → sheet_line_fields (sheet_line t at) ≡ refused_with 3
    unfolding sheet_text sheet_line judge_sheet sheet_line_fields
    sheet_line_range out =
        let f = field_found t sheet_word at m there in
        rw (f.0, f.1, range_kept 1 32 (omega arith) m ∙ out)

    pub sheet_line_good : in_range 1 32 m ≡ true → sheet_line t at ≡ Ok (found m (at + length (sheet_text m)))
    unfolding sheet_text sheet_line judge_sheet
    sheet_line_good fits =
        let f = field_found t sheet_word at m there in
        let e : min most m ≡ m = omega (arith, range_true 1 32 m fits) in
        rw (f.0, f.1, e, fits)

-- `ins,code,a,b,c` on a card of n variables
module _ (n : ℕ) (few : n ≤ 64) (t : List ℕ) (at : ℕ) where
  pub ins_line_malformed :
      ((k a b c : ℕ) → has_word t at (encoded_text (encoded k a b c)) ≡ false) → ins_line_fields (ins_line n t at) ≡ refused_with 2
  unfolding ins_line judge_ins ins_line_fields decoded_fields
  ins_line_malformed none =
      on_test (λ (z : InsLine). ins_line_fields z ≡ refused_with 2) (has_word t at ins_word) (λ w. rw (four_none t ins_word at none w)) (λ _. refl)

  module _ (k a b c : ℕ) (there : has_word t at (encoded_text (encoded k a b c)) ≡ true) where
    abbrev x : Encoded
    x = encoded k a b c

    -- the numbers as they were read
    abbrev as_read : Encoded
    as_read = encoded (min most k) (min most a) (min most b) (min most c)

    line_is : ins_line n t at ≡ ins_of (decode n as_read) (at + length (encoded_text x))
    unfolding ins_line judge_ins
    line_is = let f = four_found t ins_word at k a b c there in rw (f.0, f.1)

    -- an unknown code
    pub ins_line_code : (row_of k).format ≡ None → ins_line_fields (ins_line n t at) ≡ refused_with 4
    unfolding decode ins_line_fields decoded_fields
    ins_line_code f = rw (line_is, code_kept k ∙ f)

    -- a code of the table, by the kinds of its operands
    module _ (ka kb kc : OperandKind) (f : (row_of k).format ≡ Some (kinds ka kb kc)) where
      ranged_same : each_operand (ranged n) (kinds ka kb kc) as_read ≡ each_operand (ranged n) (kinds ka kb kc) x
      ranged_same = cc (ranged_kept n few ka a, ranged_kept n few kb b, ranged_kept n few kc c)

      unused_same : each_operand unused_zero (kinds ka kb kc) as_read ≡ each_operand unused_zero (kinds ka kb kc) x
      unused_same = cc (unused_kept ka a, unused_kept kb b, unused_kept kc c)

      pub ins_line_range : each_operand (ranged n) (kinds ka kb kc) x ≡ false → ins_line_fields (ins_line n t at) ≡ refused_with 12
      unfolding decode ins_line_fields decoded_fields
      ins_line_range r = rw (line_is, code_kept k ∙ f, ranged_same ∙ r)

      module _ (r : each_operand (ranged n) (kinds ka kb kc) x ≡ true) where
        pub ins_line_unused : each_operand unused_zero (kinds ka kb kc) x ≡ false → ins_line_fields (ins_line n t at) ≡ refused_with 13
        unfolding decode ins_line_fields decoded_fields
        ins_line_unused u = rw (line_is, code_kept k ∙ f, ranged_same ∙ r, unused_same ∙ u)

        module _ (u : each_operand unused_zero (kinds ka kb kc) x ≡ true) where
          valid : decode n x ≡ Ok (instruction_of x)
          unfolding decode
          valid = rw (f, r, u)

          pub ins_line_good : ins_line n t at ≡ Ok (found (instruction_of x) (at + length (encoded_text x)))
          ins_line_good =
              let s = (decoded_encodes n x (omega arith) (instruction_of x) valid).small in
              let ek : min most k ≡ k = omega (arith, s.small_a) in
              let ea : min most a ≡ a = omega (arith, s.small_b) in
              let eb : min most b ≡ b = omega (arith, s.small_c) in
              let ec : min most c ≡ c = omega (arith, s.small_d) in
              line_is ∙ rw (ek, ea, eb, ec, valid)

          pub ins_line_fields_lem : ins_line_fields (ins_line n t at) ≡ fields "ins" (k ∷ a ∷ b ∷ c ∷ [])
          unfolding ins_line_fields decoded_fields
          ins_line_fields_lem =
              ap ins_line_fields ins_line_good ∙ ap encoded_fields (decoded_encodes n x (omega arith) (instruction_of x) valid).back

-- the codes of the table are 1 to 14
pub code_unknown : (k : ℕ) → (k ≡ 0) ⊎ (14 < k) → (row_of k).format ≡ None
code_unknown k = ⊎_elim (λ (e : k ≡ 0). rw e) (code_past k)

known_format : {f : Format} → Some f ≢ None
known_format e = clash (cc)

pub code_known : (k : ℕ) → 0 < k → k ≤ 14 → (row_of k).format ≢ None
code_known =
    rows_at (λ k r. 0 < k → k ≤ 14 → r.format ≢ None) codes (
      λ l _. absurd (omega arith),
      (
        λ _ _. known_format,
        (
          λ _ _. known_format,
          (
            λ _ _. known_format,
            (
              λ _ _. known_format,
              (
                λ _ _. known_format,
                (
                  λ _ _. known_format,
                  (
                    λ _ _. known_format,
                    (
                      λ _ _. known_format,
                      (
                        λ _ _. known_format,
                        (
                          λ _ _. known_format,
                          (
                            λ _ _. known_format,
                            (
                              λ _ _. known_format,
                              (λ _ _. known_format, (λ _ _. known_format, λ k _ h. absurd (omega arith))),
                            ),
                          ),
                        ),
                      ),
                    ),
                  ),
                ),
              ),
            ),
          ),
        ),
      ),
    )

-- a missing line has the wrong form
pub line_missing :
    (n : ℕ) (t : List ℕ) (at : ℕ) → length t ≤ at →
    (card_line_fields (card_line t at) ≡ refused_with 2) × (var_line_fields (var_line t at) ≡ refused_with 2)
    × (sheet_line_fields (sheet_line t at) ≡ refused_with 2) × (ins_line_fields (ins_line n t at) ≡ refused_with 2)
unfolding has_word card_line var_line sheet_line ins_line card_line_fields var_line_fields sheet_line_fields ins_line_fields decoded_fields
line_missing n t at h = rw (le-ltb at (length t) h) (refl, refl, refl, refl)
