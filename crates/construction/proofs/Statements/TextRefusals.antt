-- A text is judged line by line (document 01, 'Turned back'; specs/TextJudging): the verdict on a text gives the number and the line of the first
-- refusal, and accepts a text of good lines; and a text has no other verdict.
use Rattle.std.specs.Prelude.{Ok, Err}
use Prim.Native.Nat.{ℕ, zero, suc, ◌+◌, ◌≤◌}
use mathlib.Core.Path.{◌≡◌, refl, sym, ap, subst, ◌∙◌}
use mathlib.Core.Bool.{false, cond}
use mathlib.Core.List.{List}
use lib.ListN.{length, get_or}
use lib.Dec.{eqb, ltb}
use borrow.Author.Tests.{lt-ltb, le-ltb, ltb-true, ltb-false, eq-eqb, ne_eqb}
use Rattle.grammar.specs.Reading.{found, has_word}
use Rattle.construction.specs.Types.{Instruction, Refusal, Malformed, CardLine, VarLine, SheetLine, InsLine, Verdict}
use Rattle.construction.specs.Weight.{weight}
use Rattle.construction.specs.Answers.{number_of, Fields, refused_with, verdict_fields, card_line_fields, var_line_fields, sheet_line_fields, decoded_fields}
use Rattle.construction.specs.Answers.{ins_line_fields}
use Rattle.construction.specs.Lines.{card_line, var_line, sheet_line, ins_line}
use Rattle.construction.specs.Opening.{refused_at, program_refused_at, ins_from, next_ins, with_line, judge_weight, weighed, program_after, read_program}
use Rattle.construction.specs.Opening.{next_program, with_program, programs_from, next_var, with_start, vars_from, if_accepted, at_end, then_end, then_programs}
use Rattle.construction.specs.Opening.{after_card, read_card, opened}
use Rattle.construction.specs.Changes.{if_program_accepted, program_then_end, program_text}
use Rattle.construction.specs.TextJudging.{NextLine, GoodUntil, refused_in, Judged, GoodLines, ChangeJudged}
use Rattle.construction.specs.Types.{told_at}
use Rattle.construction.specs.Readings.{ProgramReading, Reading}
use Rattle.construction.proofs.Basics.{on_test, true_false}
use Rattle.construction.proofs.Text.Reading.{after_fields, after_length}
use Rattle.construction.proofs.Observing.Histories.{on_equal}
use Rattle.construction.proofs.Statements.AnswerFields.{is_refusal}
use Rattle.construction.proofs.Statements.Refusals.{text_too_long}

module _ (t : List ℕ) where
  -- what is read from a line on
  abbrev from_program : ℕ → ℕ → Reading → ProgramReading → Reading
  from_program s k r y = then_end t (next_program y.verdict y r k (λ z. programs_from t s (suc k) z))

  abbrev from_line : NextLine → Reading
  from_line NextLine.card = after_card t (card_line t 0)
  from_line (NextLine.var m k r) = then_end t (then_programs t r.contents.program_count (vars_from t m k r))
  from_line (NextLine.sheet s k r) = then_end t (programs_from t s k r)
  from_line (NextLine.ins s k r m j x) =
      from_program s k r (weighed 32 (r.line + x.program.length) (ins_from r.contents.variable_count t m j x))

  -- nothing is refused yet
  abbrev Open : NextLine → Type 0
  Open NextLine.card = Unit {0}
  Open (NextLine.var m k r) = r.verdict ≡ Ok tt
  Open (NextLine.sheet s k r) = r.verdict ≡ Ok tt
  Open (NextLine.ins s k r m j x) = x.verdict ≡ Ok tt

  -- a program whose lines are good
  light : (last : ℕ) (x : ProgramReading) → x.verdict ≡ Ok tt → weight x.program ≤ 32 → weighed 32 last x ≡ x
  light last x a w = ap (λ (v : Verdict). judge_weight 32 v last x) a ∙ rw (le-ltb 32 (weight x.program) w)

  -- the reading comes to a line before which all are good
  good_read : {d : NextLine} → GoodUntil t d → (read_card t ≡ from_line d) × Open d
  unfolding read_card vars_from programs_from read_program ins_from
  good_read (GoodUntil.card l) = (rw (le-ltb 16384 (length t) l), tt)
  good_read (GoodUntil.first_var d e) = ((good_read d).0 ∙ ap (after_card t) e, refl)
  good_read (GoodUntil.next_var {m} {k} {r = r} d e) = (
    (good_read d).0
        ∙ ap (λ (z : VarLine). then_end t (then_programs t r.contents.program_count (next_var z r k (λ x. vars_from t m (suc k) x)))) e,
    refl,
  )
  good_read (GoodUntil.first_sheet {r = r} d) =
      let h = good_read d in
      (h.0 ∙ ap (λ (v : Verdict). then_end t (if_accepted v r (λ x. programs_from t r.contents.program_count 0 x))) h.1, h.1)
  good_read (GoodUntil.first_ins {s} {k} {r = r} d e) = (
    (good_read d).0 ∙ ap (λ (z : SheetLine). from_program s k r (program_after r.contents.variable_count 32 t z r.line)) e,
    refl,
  )
  good_read (GoodUntil.next_ins {s} {k} {m} {j} {r = r} {x = x} d e) = (
    (good_read d).0
        ∙ ap
        (λ (z : InsLine). from_program s k r
        (weighed 32 (r.line + x.program.length) (next_ins z x j (λ y. ins_from r.contents.variable_count t m (suc j) y)))) e,
    refl,
  )
  good_read (GoodUntil.next_sheet {s} {k} {r = r} {x = x} d w) =
      let h = good_read d in (
        h.0
            ∙ ap (from_program s k r) (light _ x h.1 w)
            ∙ ap (λ (v : Verdict). then_end t (next_program v x r k (λ z. programs_from t s (suc k) z))) h.1,
        refl,
      )

-- what is no refusal has no number
unlike : {f : Fields} {number : ℕ} → is_refusal f ≡ false → f ≡ refused_with number → ⊥
unfolding has_word
unlike h e = true_false _ (ap is_refusal e) h

told : (why : Refusal) (line : ℕ) {number : ℕ} → refused_with (number_of why) ≡ refused_with number →
    verdict_fields (Err (told_at why line)) ≡ refused_in line number
unfolding verdict_fields
told why line e = ap (λ (f : Fields). refused_in line (get_or f.numbers 0 0)) e

module _ (t : List ℕ) where
  abbrev verdict_of : Reading → Fields
  verdict_of r = verdict_fields r.verdict

  -- a line that is refused ends the reading
  card_ends : {number : ℕ} (z : CardLine) → card_line_fields z ≡ refused_with number → verdict_of (after_card t z) ≡ refused_in 1 number
  unfolding card_line_fields has_word
  card_ends (Ok z) e = absurd (unlike refl e)
  card_ends (Err why) e = told why 1 e

  var_ends :
      {number : ℕ} (r : Reading) (s k : ℕ) (go : Reading → Reading) (z : VarLine) → var_line_fields z ≡ refused_with number →
      verdict_of (then_end t (then_programs t s (next_var z r k go))) ≡ refused_in r.line number
  unfolding var_line_fields has_word
  var_ends r s k go (Ok z) e = absurd (unlike refl e)
  var_ends r s k go (Err why) e = told why r.line e

  sheet_ends :
      {number : ℕ} (s k : ℕ) (r : Reading) (n : ℕ) (z : SheetLine) → sheet_line_fields z ≡ refused_with number →
      verdict_of (from_program t s k r (program_after n 32 t z r.line)) ≡ refused_in r.line number
  unfolding sheet_line_fields has_word
  sheet_ends s k r n (Ok z) e = absurd (unlike refl e)
  sheet_ends s k r n (Err why) e = told why r.line e

  ins_ends :
      {number : ℕ} (s k : ℕ) (r : Reading) (last j : ℕ) (x : ProgramReading) (go : ProgramReading → ProgramReading) (z : InsLine) →
      ins_line_fields z ≡ refused_with number → verdict_of (from_program t s k r (weighed 32 last (next_ins z x j go))) ≡ refused_in x.line number
  unfolding ins_line_fields decoded_fields has_word
  ins_ends s k r last j x go (Ok z) e = absurd (unlike refl e)
  ins_ends s k r last j x go (Err why) e = told why x.line e

  -- a text has no other verdict than that of its first refusal
  pub judged_only : {f : Fields} → Judged t f → verdict_fields (opened t).verdict ≡ f
  unfolding opened vars_from programs_from read_program ins_from verdict_fields
  judged_only (Judged.too_long l) = text_too_long t l
  judged_only (Judged.card d e) = ap verdict_of (good_read t d).0 ∙ card_ends (card_line t 0) e
  judged_only (Judged.var {m} {k} {r = r} d e) =
      ap verdict_of (good_read t d).0 ∙ var_ends r r.contents.program_count k (λ x. vars_from t m (suc k) x) (var_line t r.at) e
  judged_only (Judged.sheet {s} {k} {r = r} d e) =
      ap verdict_of (good_read t d).0 ∙ sheet_ends s k r r.contents.variable_count (sheet_line t r.at) e
  judged_only (Judged.ins {s} {k} {m} {j} {r = r} {x = x} d e) =
      let n = r.contents.variable_count in
      ap verdict_of (good_read t d).0
      ∙ ins_ends s k r (r.line + x.program.length) j x (λ y. ins_from n t m (suc j) y) (ins_line n t x.at) e
  judged_only (Judged.too_heavy {s} {k} {r = r} {x = x} d w) =
      let h = good_read t d in
      let last = r.line + x.program.length in
      ap verdict_of h.0
      ∙ ap (λ (v : Verdict). verdict_of (from_program t s k r (judge_weight 32 v last x))) h.1
      ∙ rw (lt-ltb 32 (weight x.program) w)
  judged_only (Judged.left_over {r = r} d ne) =
      let h = good_read t d in
      ap verdict_of h.0 ∙ ap (λ (v : Verdict). verdict_of (if_accepted v r (at_end t))) h.1 ∙ rw (ne_eqb r.at (length t) ne)
  judged_only (Judged.accepted {r = r} d e) =
      let h = good_read t d in
      ap verdict_of h.0
      ∙ ap (λ (v : Verdict). verdict_of (if_accepted v r (at_end t))) h.1
      ∙ rw (eq-eqb r.at (length t) e) (ap verdict_fields h.1)

  -- the verdict from a line on before which all are good: for the lines of a program, ..
  module _
      (s k : ℕ) (r : Reading)
      (next : (x : ProgramReading) → GoodUntil t (NextLine.sheet s (suc k) (with_program r k x)) →
      Judged t (verdict_of (from_line t (NextLine.sheet s (suc k) (with_program r k x)))))
    where
      by_ins :
          (m j : ℕ) (x : ProgramReading) → GoodUntil t (NextLine.ins s k r m j x) → x.verdict ≡ Ok tt →
          Judged t (verdict_of (from_line t (NextLine.ins s k r m j x)))
      unfolding ins_from ins_line_fields decoded_fields verdict_fields
      by_ins zero j x d a =
          subst (λ (v : Verdict). Judged t (verdict_of (from_program t s k r (judge_weight 32 v (r.line + x.program.length) x)))) (sym a)
          (on_test (λ (y : ProgramReading). Judged t (verdict_of (from_program t s k r y))) (ltb 32 (weight x.program))
          (λ w. Judged.too_heavy d (ltb-true 32 (weight x.program) w))
          (λ w. subst (λ (v : Verdict). Judged t (verdict_of (then_end t (next_program v x r k (λ z. programs_from t s (suc k) z))))) (sym a)
          (next x (GoodUntil.next_sheet d (ltb-false 32 (weight x.program) w)))))
      by_ins (suc m) j x d a = line (λ y i e. by_ins m (suc j) (with_line x j y i) (GoodUntil.next_ins d e) refl) (ins_line r.contents.variable_count t x.at)
          refl
        where
          line :
              ((y : Instruction) (i : ℕ) → ins_line r.contents.variable_count t x.at ≡ Ok (found y i) →
              Judged t (verdict_of (from_line t (NextLine.ins s k r m (suc j) (with_line x j y i))))) →
              (z : InsLine) → ins_line r.contents.variable_count t x.at ≡ z →
              Judged t
              (verdict_of
              (from_program t s k r
              (weighed 32 (r.line + x.program.length) (next_ins z x j (λ y. ins_from r.contents.variable_count t m (suc j) y)))))
          line f (Ok z) e = f z.value z.next e
          line f (Err why) e = Judged.ins d (ap ins_line_fields e)

  -- .. programs, ..
  by_sheets :
      (s k : ℕ) (r : Reading) → GoodUntil t (NextLine.sheet s k r) → r.verdict ≡ Ok tt → Judged t (verdict_of (from_line t (NextLine.sheet s k r)))
  unfolding programs_from read_program verdict_fields sheet_line_fields
  by_sheets zero k r d a =
      subst (λ (v : Verdict). Judged t (verdict_of (if_accepted v r (at_end t)))) (sym a)
      (on_equal (λ b. Judged t (verdict_of (cond b r (refused_at Malformed r.line)))) r.at (length t)
      (λ e. subst (λ (v : Verdict). Judged t (verdict_fields v)) (sym a) (Judged.accepted d e)) (λ ne. Judged.left_over d ne))
  by_sheets (suc s) k r d a = line (by_ins s k r (λ x q. by_sheets s (suc k) (with_program r k x) q refl)) (sheet_line t r.at) refl
    where
      line :
          ((m j : ℕ) (x : ProgramReading) → GoodUntil t (NextLine.ins s k r m j x) → x.verdict ≡ Ok tt →
          Judged t (verdict_of (from_line t (NextLine.ins s k r m j x)))) →
          (z : SheetLine) → sheet_line t r.at ≡ z → Judged t (verdict_of (from_program t s k r (program_after r.contents.variable_count 32 t z r.line)))
      line f (Ok z) e = f z.value 0 (after_length z.value z.next (suc r.line)) (GoodUntil.first_ins d e) refl
      line f (Err why) e = Judged.sheet d (ap sheet_line_fields e)

  -- .. starting values ..
  by_vars :
      (m k : ℕ) (r : Reading) → GoodUntil t (NextLine.var m k r) → r.verdict ≡ Ok tt → Judged t (verdict_of (from_line t (NextLine.var m k r)))
  unfolding vars_from verdict_fields var_line_fields
  by_vars zero k r d a =
      subst (λ (v : Verdict). Judged t (verdict_of (then_end t (if_accepted v r (λ x. programs_from t r.contents.program_count 0 x))))) (sym a)
      (by_sheets r.contents.program_count 0 r (GoodUntil.first_sheet d) a)
  by_vars (suc m) k r d a = line (λ v i e. by_vars m (suc k) (with_start r k v i) (GoodUntil.next_var d e) refl) (var_line t r.at) refl
    where
      line :
          ((v i : ℕ) → var_line t r.at ≡ Ok (found v i) → Judged t (verdict_of (from_line t (NextLine.var m (suc k) (with_start r k v i))))) →
          (z : VarLine) → var_line t r.at ≡ z →
          Judged t (verdict_of (then_end t (then_programs t r.contents.program_count (next_var z r k (λ x. vars_from t m (suc k) x)))))
      line f (Ok z) e = f z.value z.next e
      line f (Err why) e = Judged.var d (ap var_line_fields e)

  -- .. and the first line
  by_card : GoodUntil t NextLine.card → Judged t (verdict_of (from_line t NextLine.card))
  unfolding verdict_fields card_line_fields
  by_card d = line (card_line t 0) refl
    where
      line : (z : CardLine) → card_line t 0 ≡ z → Judged t (verdict_of (after_card t z))
      line (Ok z) e =
          let v = z.value in
          by_vars v.variable_count 0 (after_fields v.process_count v.variable_count v.program_count v.limit z.next) (GoodUntil.first_var d e) refl
      line (Err why) e = Judged.card d (ap card_line_fields e)

  -- every text has one of these verdicts
  pub text_judged : Judged t (verdict_fields (opened t).verdict)
  unfolding opened read_card
  text_judged =
      on_test (λ (r : Reading). Judged t (verdict_of r)) (ltb 16384 (length t))
      (λ h. unfold verdict_fields in Judged.too_long (ltb-true 16384 (length t) h))
      (λ h. by_card (GoodUntil.card (ltb-false 16384 (length t) h)))

-- the text of a change
module _ (n most : ℕ) (t : List ℕ) where
  abbrev change_verdict : ProgramReading → Fields
  change_verdict r = verdict_fields (program_then_end t r).verdict

  -- what is read from an `ins` line on
  abbrev from_ins : ℕ → ℕ → ProgramReading → ProgramReading
  from_ins m j x = weighed most (1 + x.program.length) (ins_from n t m j x)

  -- the reading comes to a line before which all are good
  good_lines :
      {m j : ℕ} {x : ProgramReading} → GoodLines n t m j x →
      (program_text n most t ≡ program_then_end t (from_ins m j x)) × (x.verdict ≡ Ok tt)
  unfolding read_program ins_from
  good_lines (GoodLines.first l e) =
      (rw (le-ltb 16384 (length t) l) (ap (λ (z : SheetLine). program_then_end t (program_after n most t z 1)) e), refl)
  good_lines (GoodLines.next {m} {j} {x = x} d e) = (
    (good_lines d).0
        ∙ ap (λ (z : InsLine). program_then_end t (weighed most (1 + x.program.length) (next_ins z x j (λ y. ins_from n t m (suc j) y)))) e,
    refl,
  )

  refused_sheet : {number : ℕ} (z : SheetLine) → sheet_line_fields z ≡ refused_with number → change_verdict (program_after n most t z 1) ≡ refused_in 1 number
  unfolding sheet_line_fields has_word
  refused_sheet (Ok z) e = absurd (unlike refl e)
  refused_sheet (Err why) e = told why 1 e

  refused_ins :
      {number : ℕ} (last j : ℕ) (x : ProgramReading) (go : ProgramReading → ProgramReading) (z : InsLine) →
      ins_line_fields z ≡ refused_with number → change_verdict (weighed most last (next_ins z x j go)) ≡ refused_in x.line number
  unfolding ins_line_fields decoded_fields has_word
  refused_ins last j x go (Ok z) e = absurd (unlike refl e)
  refused_ins last j x go (Err why) e = told why x.line e

  -- a program whose lines are good, of no more weight: what follows it is looked at
  abbrev at_its_end : ProgramReading → ProgramReading
  at_its_end x = cond (eqb x.at (length t)) x (program_refused_at Malformed x.line)

  good_end :
      {j : ℕ} {x : ProgramReading} → GoodLines n t 0 j x → weight x.program ≤ most → program_text n most t ≡ at_its_end x
  unfolding ins_from
  good_end {x = x} d w =
      let h = good_lines d in
      h.0
      ∙ ap (λ (v : Verdict). program_then_end t (judge_weight most v (1 + x.program.length) x)) h.1
      ∙ rw (le-ltb most (weight x.program) w) (ap (λ (v : Verdict). if_program_accepted v x (at_its_end x)) h.1)

  -- a change's text has no other verdict than that of its first refusal
  pub change_judged_only : {f : Fields} → ChangeJudged n most t f → verdict_fields (program_text n most t).verdict ≡ f
  unfolding read_program ins_from verdict_fields
  change_judged_only (ChangeJudged.too_long l) = rw (lt-ltb 16384 (length t) l)
  change_judged_only (ChangeJudged.sheet l e) = rw (le-ltb 16384 (length t) l) (refused_sheet (sheet_line t 0) e)
  change_judged_only (ChangeJudged.ins {m} {j} {x = x} d e) =
      ap (λ (r : ProgramReading). verdict_fields r.verdict) (good_lines d).0
      ∙ refused_ins (1 + x.program.length) j x (λ y. ins_from n t m (suc j) y) (ins_line n t x.at) e
  change_judged_only (ChangeJudged.too_heavy {x = x} d w) =
      let h = good_lines d in
      ap (λ (r : ProgramReading). verdict_fields r.verdict) h.0
      ∙ ap (λ (v : Verdict). change_verdict (judge_weight most v (1 + x.program.length) x)) h.1
      ∙ rw (lt-ltb most (weight x.program) w)
  change_judged_only (ChangeJudged.left_over {x = x} d w ne) =
      ap (λ (r : ProgramReading). verdict_fields r.verdict) (good_end d w) ∙ rw (ne_eqb x.at (length t) ne)
  change_judged_only (ChangeJudged.accepted {x = x} d w e) =
      ap (λ (r : ProgramReading). verdict_fields r.verdict) (good_end d w)
      ∙ rw (eq-eqb x.at (length t) e) (ap verdict_fields (good_lines d).1)

  -- from an `ins` line on before which all are good
  by_lines :
      (m j : ℕ) (x : ProgramReading) → GoodLines n t m j x → x.verdict ≡ Ok tt → ChangeJudged n most t (change_verdict (from_ins m j x))
  unfolding ins_from ins_line_fields decoded_fields verdict_fields
  by_lines zero j x d a =
      subst (λ (v : Verdict). ChangeJudged n most t (change_verdict (judge_weight most v (1 + x.program.length) x))) (sym a)
      (on_test (λ (y : ProgramReading). ChangeJudged n most t (change_verdict y)) (ltb most (weight x.program))
      (λ w. ChangeJudged.too_heavy d (ltb-true most (weight x.program) w))
      (λ w. subst (λ (v : Verdict). ChangeJudged n most t (verdict_fields (if_program_accepted v x (at_its_end x)).verdict)) (sym a)
      (on_equal (λ b. ChangeJudged n most t (verdict_fields (cond b x (program_refused_at Malformed x.line)).verdict)) x.at (length t)
      (λ e. subst (λ (v : Verdict). ChangeJudged n most t (verdict_fields v)) (sym a) (ChangeJudged.accepted d (ltb-false most (weight x.program) w) e))
      (λ ne. ChangeJudged.left_over d (ltb-false most (weight x.program) w) ne))))
  by_lines (suc m) j x d a = line (λ y i e. by_lines m (suc j) (with_line x j y i) (GoodLines.next d e) refl) (ins_line n t x.at) refl
    where
      line :
          ((y : Instruction) (i : ℕ) → ins_line n t x.at ≡ Ok (found y i) → ChangeJudged n most t (change_verdict (from_ins m (suc j) (with_line x j y i)))) →
          (z : InsLine) → ins_line n t x.at ≡ z →
          ChangeJudged n most t (change_verdict (weighed most (1 + x.program.length) (next_ins z x j (λ y. ins_from n t m (suc j) y))))
      line f (Ok z) e = f z.value z.next e
      line f (Err why) e = ChangeJudged.ins d (ap ins_line_fields e)

  by_first : length t ≤ 16384 → ChangeJudged n most t (change_verdict (program_after n most t (sheet_line t 0) 1))
  unfolding verdict_fields sheet_line_fields
  by_first l = line (sheet_line t 0) refl
    where
      line : (z : SheetLine) → sheet_line t 0 ≡ z → ChangeJudged n most t (change_verdict (program_after n most t z 1))
      line (Ok z) e = by_lines z.value 0 (after_length z.value z.next 2) (GoodLines.first l e) refl
      line (Err why) e = ChangeJudged.sheet l (ap sheet_line_fields e)

  -- every text of a change has one of these verdicts
  pub change_judged_lem : ChangeJudged n most t (verdict_fields (program_text n most t).verdict)
  unfolding read_program
  change_judged_lem =
      on_test (λ (r : ProgramReading). ChangeJudged n most t (verdict_fields r.verdict)) (ltb 16384 (length t))
      (λ h. unfold verdict_fields in ChangeJudged.too_long (ltb-true 16384 (length t) h))
      (λ h. by_first (ltb-false 16384 (length t) h))
