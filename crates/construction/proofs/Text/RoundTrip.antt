-- A text that opens is the text of the card that it opens to; a refused one opens to the empty card, which writes as no bytes
-- (document 01, 'The card text' and 'Turned back').
use Rattle.std.specs.Prelude.{Ok}
use mathlib.Core.Bool.{false}
use mathlib.Core.Path.{◌≡◌, refl, sym, ◌∙◌, ap}
use mathlib.Core.List.{List, [], ◌++◌, append_assoc, append-nil}
use Prim.Native.Nat.{ℕ, zero, suc, ◌+◌, ◌<◌, ◌≤◌}
use lib.Dec.{eqb, ltb}
use lib.ListN.{get_or, drop, length, length-set, length-replicate}
use lib.Seq.{drop-length, get_or-set_same, get_or-set_other}
use native.Mathlib.Omega.{arith}
use borrow.Author.Tests.{ne_eqb, eqb-true}
use Rattle.grammar.specs.Reading.{found}
use Rattle.construction.proofs.Basics.{on_test, clash}
use Rattle.grammar.proofs.Bytes.{word_text_lem}
use Rattle.grammar.proofs.RoundTrip.{Small, field_text_lem, four_text_lem}
use Rattle.construction.specs.Types.{Instruction, Encoded, Line, Contents, Verdict}
use Rattle.construction.specs.Instructions.{no_line, no_program}
use Rattle.construction.specs.Lines.{card_numbers, card_word, var_word, sheet_word, ins_word, card_line, var_line, sheet_line, ins_line, card_text, var_text, sheet_text}
use Rattle.construction.specs.Lines.{encoded_text, ins_text}
use Rattle.construction.specs.Opening.{no_contents, fresh, with_line, ins_from, read_program, with_program, programs_from, with_start, vars_from, at_end, then_end}
use Rattle.construction.specs.Opening.{then_programs, read_card, opened}
use Rattle.construction.specs.Writing.{vars_text, lines_text, program_text, programs_text, text_of}
use Rattle.construction.specs.Readings.{ProgramReading, Reading}
use Rattle.construction.proofs.Text.Lines.{card_read, var_read, sheet_read, ins_read}
use Rattle.construction.proofs.Text.Decoding.{decoded_encodes}
use Rattle.construction.proofs.Text.Reading.{after_fields, after_length, on_ins, on_sheet, on_weighed, on_program, on_var, on_accepted, on_card_lem}

abbrev pub Accepted : Verdict → Type 0
Accepted v = v ≡ Ok tt

-- ---- what a line that was read looks like
module _ (t : List ℕ) (at : ℕ) where
  card_text_lem : (p n s l i : ℕ) → card_line t at ≡ Ok (found (card_numbers p n s l) i) → drop at t ≡ card_text p n s l ++ drop i t
  unfolding card_text
  card_text_lem p n s l i e =
      let r = card_read t at p n s l i e in
      let f = r.fits in
      let small : Small p n s l =
      record {
        small_a = omega (arith, f.process_count);
        small_b = omega (arith, f.variable_count);
        small_c = omega (arith, f.program_count);
        small_d = omega (arith, f.limit);
      } in
      word_text_lem t card_word at r.word_there
      ∙ ap (λ (x : List ℕ). card_word ++ x) (four_text_lem t (at + 5) p n s l i small r.numbers_there)

  var_text_lem : (v i : ℕ) → var_line t at ≡ Ok (found v i) → drop at t ≡ var_text v ++ drop i t
  unfolding var_text
  var_text_lem v i e =
      let r = var_read t at v i e in
      let f = r.fits in
      word_text_lem t var_word at r.word_there
      ∙ ap (λ (x : List ℕ). var_word ++ x) (field_text_lem t 10 (at + 4) v i (omega arith) r.field_there)

  sheet_text_lem : (m i : ℕ) → sheet_line t at ≡ Ok (found m i) → drop at t ≡ sheet_text m ++ drop i t
  unfolding sheet_text
  sheet_text_lem m i e =
      let r = sheet_read t at m i e in
      let f = r.fits in
      word_text_lem t sheet_word at r.word_there
      ∙ ap (λ (x : List ℕ). sheet_word ++ x) (field_text_lem t 10 (at + 6) m i (omega arith) r.field_there)

ins_text_lem : (n : ℕ) → n ≤ 256 → (t : List ℕ) (at : ℕ) (x : Instruction) (i : ℕ) → ins_line n t at ≡ Ok (found x i) → drop at t ≡ ins_text x ++ drop i t
unfolding ins_text
ins_text_lem n h t at x i e =
    let r = ins_read n t at x i e in
    let d = decoded_encodes n r.numbers h x r.fits in
    word_text_lem t ins_word at r.word_there
    ∙ ap (λ (y : List ℕ). ins_word ++ y) (four_text_lem t (at + 4) _ _ _ _ i d.small r.numbers_there)
    ∙ ap (λ (y : Encoded). encoded_text y ++ drop i t) (sym d.back)

-- ---- the numbers of the `card` line stay while the others are read
record Fields (p n s l : ℕ) (x : Contents) : Type 0 where
  process_count : x.process_count ≡ p
  variable_count : x.variable_count ≡ n
  program_count : x.program_count ≡ s
  limit : x.limit ≡ l

abbrev SameFields : Reading → Reading → Type 0
SameFields r z = Fields r.contents.process_count r.contents.variable_count r.contents.program_count r.contents.limit z.contents

same : {x : Contents} → Fields x.process_count x.variable_count x.program_count x.limit x
same = record { process_count = refl; variable_count = refl; program_count = refl; limit = refl }

-- ---- the `var` lines
record VarsRead (t : List ℕ) (m k : ℕ) (r z : Reading) : Type 0 where
  text : drop r.at t ≡ vars_text m k z.contents.starts ++ drop z.at t
  fields : SameFields r z
  programs : z.contents.programs ≡ r.contents.programs
  below : (j : ℕ) → j < k → get_or z.contents.starts j 0 ≡ get_or r.contents.starts j 0

vars_read :
    (t : List ℕ) (m k : ℕ) (r : Reading) → k + m ≤ length r.contents.starts → Accepted (vars_from t m k r).verdict →
    VarsRead t m k r (vars_from t m k r)
unfolding vars_from vars_text
vars_read t zero k r h = λ e. record { text = refl; fields = same; programs = refl; below = λ j p. refl }
vars_read t (suc m) k r h =
    on_var (λ z. Accepted z.verdict → VarsRead t (suc m) k r z) (var_line t r.at) r k (λ x. vars_from t m (suc k) x)
    (λ v i f e.
    let y : Reading = with_start r k v i in
    let q = vars_read t m (suc k) y (omega (arith, length-set r.contents.starts k v)) e in
    let g : get_or (vars_from t m (suc k) y).contents.starts k 0 ≡ v = q.below k (omega arith) ∙ get_or-set_same r.contents.starts k v 0 (omega arith) in
    record {
      text = rw (g, append_assoc (var_text v)) (var_text_lem t r.at v i f ∙ ap (λ (l : List ℕ). var_text v ++ l) q.text);
      fields = q.fields;
      programs = q.programs;
      below = λ j p. q.below j (omega arith) ∙ get_or-set_other r.contents.starts k j v 0 (λ (z : j ≡ k). omega arith);
    })
    (λ why e. clash (cc))

-- ---- the lines of a program
record LinesRead (t : List ℕ) (m k : ℕ) (r z : ProgramReading) : Type 0 where
  text : drop r.at t ≡ lines_text m k z.program.lines ++ drop z.at t
  length_kept : z.program.length ≡ r.program.length
  below : (j : ℕ) → j < k → get_or z.program.lines j no_line ≡ get_or r.program.lines j no_line

lines_read :
    (n : ℕ) → n ≤ 256 → (t : List ℕ) (m k : ℕ) (r : ProgramReading) → k + m ≤ length r.program.lines →
    Accepted (ins_from n t m k r).verdict → LinesRead t m k r (ins_from n t m k r)
unfolding ins_from lines_text
lines_read n s t zero k r h = λ e. record { text = refl; length_kept = refl; below = λ j p. refl }
lines_read n s t (suc m) k r h =
    on_ins (λ z. Accepted z.verdict → LinesRead t (suc m) k r z) (ins_line n t r.at) r k (λ x. ins_from n t m (suc k) x)
    (λ v i f e.
    let y : ProgramReading = with_line r k v i in
    let b : Line = record { instruction = v } in
    let q = lines_read n s t m (suc k) y (omega (arith, length-set r.program.lines k b)) e in
    let g : get_or (ins_from n t m (suc k) y).program.lines k no_line ≡ b =
    q.below k (omega arith) ∙ get_or-set_same r.program.lines k b no_line (omega arith) in
    record {
      text = rw (g, append_assoc (ins_text v)) (ins_text_lem n s t r.at v i f ∙ ap (λ (l : List ℕ). ins_text v ++ l) q.text);
      length_kept = q.length_kept;
      below = λ j p. q.below j (omega arith) ∙ get_or-set_other r.program.lines k j b no_line (λ (z : j ≡ k). omega arith);
    })
    (λ why e. clash (cc))

program_text_lem :
    (n most : ℕ) → n ≤ 256 → (t : List ℕ) (at line : ℕ) → Accepted (read_program n most t at line).verdict →
    drop at t ≡ program_text (read_program n most t at line).program ++ drop (read_program n most t at line).at t
unfolding read_program
program_text_lem n most s t at line =
    on_sheet (λ x. Accepted x.verdict → drop at t ≡ program_text x.program ++ drop x.at t) n most t (sheet_line t at) line
    (λ m i f.
    on_weighed (λ x. Accepted x.verdict → drop at t ≡ program_text x.program ++ drop x.at t) most (line + m)
    (ins_from n t m 0 (after_length m i (suc line)))
    (λ _ e.
    let q = lines_read n s t m 0 (after_length m i (suc line)) (omega (arith, (sheet_read t at m i f).fits, length-replicate 32 no_line)) e in
    rw (q.length_kept, append_assoc (sheet_text m)) (sheet_text_lem t at m i f ∙ ap (λ (l : List ℕ). sheet_text m ++ l) q.text))
    (λ e. clash (cc)))
    (λ why e. clash (cc))

-- ---- the programs
record ProgramsRead (t : List ℕ) (m k : ℕ) (r z : Reading) : Type 0 where
  text : drop r.at t ≡ programs_text m k z.contents.programs ++ drop z.at t
  fields : SameFields r z
  starts : z.contents.starts ≡ r.contents.starts
  below : (j : ℕ) → j < k → get_or z.contents.programs j no_program ≡ get_or r.contents.programs j no_program

programs_read :
    (t : List ℕ) (m k : ℕ) (r : Reading) → r.contents.variable_count ≤ 256 → k + m ≤ length r.contents.programs →
    Accepted (programs_from t m k r).verdict → ProgramsRead t m k r (programs_from t m k r)
unfolding programs_from programs_text
programs_read t zero k r s h = λ e. record { text = refl; fields = same; starts = refl; below = λ j p. refl }
programs_read t (suc m) k r s h =
    let x = read_program r.contents.variable_count 32 t r.at r.line in
    on_program (λ z. Accepted z.verdict → ProgramsRead t (suc m) k r z) x.verdict x r k (λ y. programs_from t m (suc k) y)
    (λ a e.
    let q = programs_read t m (suc k) (with_program r k x) s (omega (arith, length-set r.contents.programs k x.program)) e in
    let g : get_or (programs_from t m (suc k) (with_program r k x)).contents.programs k no_program ≡ x.program =
    q.below k (omega arith) ∙ get_or-set_same r.contents.programs k x.program no_program (omega arith) in
    record {
      text =
          rw (g, append_assoc (program_text x.program))
          (program_text_lem r.contents.variable_count 32 s t r.at r.line a ∙ ap (λ (l : List ℕ). program_text x.program ++ l) q.text);
      fields = q.fields;
      starts = q.starts;
      below = λ j p. q.below j (omega arith) ∙ get_or-set_other r.contents.programs k j x.program no_program (λ (z : j ≡ k). omega arith);
    })
    (λ why line e. clash (cc))

-- ---- the whole text
-- what has been read is the text of the card so far
abbrev SoFar : List ℕ → Reading → Type 0
SoFar t z = t ≡ text_of (fresh z.contents) ++ drop z.at t

-- a reading that is accepted has the card that writes as t
abbrev WritesAs : List ℕ → Reading → Type 0
WritesAs t z = Accepted z.verdict → text_of (fresh z.contents) ≡ t

module _ (t : List ℕ) (p n s l i : ℕ) (f : card_line t 0 ≡ Ok (found (card_numbers p n s l) i)) where
  abbrev begun : Reading
  begun = after_fields p n s l i

  all_read : (v z : Reading) → VarsRead t n 0 begun v → ProgramsRead t s 0 v z → SoFar t z
  unfolding text_of fresh
  all_read v z a b =
      let c = (card_read t 0 p n s l i f).fits in
      let x₁ : z.contents.process_count ≡ p = b.fields.process_count ∙ a.fields.process_count in
      let x₂ : z.contents.variable_count ≡ n = b.fields.variable_count ∙ a.fields.variable_count in
      let x₃ : z.contents.program_count ≡ s = b.fields.program_count ∙ a.fields.program_count in
      let x₄ : z.contents.limit ≡ l = b.fields.limit ∙ a.fields.limit in
      let q : eqb p 0 ≡ false = ne_eqb p 0 (λ (y : p ≡ 0). omega (arith, c.process_count)) in
      let w : t ≡ card_text p n s l ++ (vars_text n 0 v.contents.starts ++ (programs_text s 0 z.contents.programs ++ drop z.at t)) =
      card_text_lem t 0 p n s l i f
      ∙ ap (λ (y : List ℕ). card_text p n s l ++ y) (a.text ∙ ap (λ (y : List ℕ). vars_text n 0 v.contents.starts ++ y) b.text) in
      rw (x₁, x₂, x₃, x₄, b.starts, q) (w ∙ simp append_assoc)

  programs_after : (v : Reading) → VarsRead t n 0 begun v → Accepted (programs_from t s 0 v).verdict → SoFar t (programs_from t s 0 v)
  programs_after v a e =
      let c = (card_read t 0 p n s l i f).fits in
      all_read v (programs_from t s 0 v) a
      (programs_read t s 0 v
      (omega (arith, c.variable_count, a.fields.variable_count))
      (rw a.programs (omega (arith, c.program_count, length-replicate 8 no_program)))
      e)

  vars_there : Accepted (vars_from t n 0 begun).verdict → VarsRead t n 0 begun (vars_from t n 0 begun)
  vars_there e = vars_read t n 0 begun (omega (arith, (card_read t 0 p n s l i f).fits.variable_count, length-replicate {A = ℕ} 64 0)) e

  body_there :
      (v : Reading) → (Accepted v.verdict → VarsRead t n 0 begun v) → Accepted (then_programs t s v).verdict →
      SoFar t (then_programs t s v)
  body_there v a =
      on_accepted (λ z. Accepted z.verdict → SoFar t z) v (λ x. programs_from t s 0 x)
      (λ q. programs_after v (a q)) (λ why line q e. clash (cc))

  end_there : (z : Reading) → SoFar t z → WritesAs t (at_end t z)
  end_there z q =
      on_test (WritesAs t) (eqb z.at (length t))
      (λ h e. sym (q ∙ rw (eqb-true z.at (length t) h, drop-length t, append-nil)))
      (λ h e. clash (cc))

  card_there : (z : Reading) → (Accepted z.verdict → SoFar t z) → WritesAs t (then_end t z)
  card_there z a =
      on_accepted (WritesAs t) z (λ x. at_end t x)
      (λ q. end_there z (a q)) (λ why line q e. clash (cc))

  fields_there : WritesAs t (then_end t (then_programs t s (vars_from t n 0 begun)))
  fields_there = card_there (then_programs t s (vars_from t n 0 begun)) (body_there (vars_from t n 0 begun) vars_there)

-- a text that opens is given back byte for byte
pub given_back_lem : (t : List ℕ) → (opened t).verdict ≡ Ok tt → text_of (opened t).card ≡ t
unfolding opened read_card
given_back_lem t =
    on_test (WritesAs t) (ltb 16384 (length t))
    (λ h e. clash (cc))
    (λ h. on_card_lem (WritesAs t) t (card_line t 0) (fields_there t) (λ why e. clash (cc)))

-- what is written of it opens to the same card
pub reads_back : (t : List ℕ) → (opened t).verdict ≡ Ok tt → opened (text_of (opened t).card) ≡ opened t
reads_back t e = ap opened (given_back_lem t e)

-- two texts that open to the same card are the same text
pub injective : (t u : List ℕ) → (opened t).verdict ≡ Ok tt → (opened u).verdict ≡ Ok tt → (opened t).card ≡ (opened u).card → t ≡ u
injective t u p q e = sym (given_back_lem t p) ∙ ap text_of e ∙ given_back_lem u q

-- ---- a refused text opens to the empty card, which writes as no bytes
-- a reading that is refused has no contents
abbrev pub Empty : Reading → Type 0
Empty r = (Accepted r.verdict → ⊥) → r.contents ≡ no_contents

vars_empty : (t : List ℕ) (m k : ℕ) (r : Reading) → Accepted r.verdict → Empty (vars_from t m k r)
unfolding vars_from
vars_empty t zero k r e = λ n. absurd (n e)
vars_empty t (suc m) k r e =
    on_var Empty (var_line t r.at) r k (λ x. vars_from t m (suc k) x) (λ v i _. vars_empty t m (suc k) (with_start r k v i) refl) (λ why n. refl)

programs_empty : (t : List ℕ) (m k : ℕ) (r : Reading) → Accepted r.verdict → Empty (programs_from t m k r)
unfolding programs_from
programs_empty t zero k r e = λ n. absurd (n e)
programs_empty t (suc m) k r e =
    let x = read_program r.contents.variable_count 32 t r.at r.line in
    on_program Empty x.verdict x r k (λ y. programs_from t m (suc k) y)
    (λ _. programs_empty t m (suc k) (with_program r k x) refl) (λ why line n. refl)

end_empty : (t : List ℕ) (r : Reading) → Accepted r.verdict → Empty (at_end t r)
end_empty t r e = on_test Empty (eqb r.at (length t)) (λ h n. absurd (n e)) (λ h n. refl)

pub read_empty : (t : List ℕ) → Empty (read_card t)
unfolding read_card
read_empty t =
    on_test Empty (ltb 16384 (length t)) (λ h n. refl)
    (λ h. on_card_lem Empty t (card_line t 0)
    (λ p n s l i _.
    let v = vars_from t n 0 (after_fields p n s l i) in
    let vars = vars_empty t n 0 (after_fields p n s l i) refl in
    let u = then_programs t s v in
    let programs = on_accepted Empty v (λ x. programs_from t s 0 x) (λ e. programs_empty t s 0 v e) (λ _ _ _. vars) in
    on_accepted Empty u (λ x. at_end t x) (λ e. end_empty t u e) (λ _ _ _. programs))
    (λ why n. refl))

pub refused_empty : (t : List ℕ) → ((opened t).verdict ≡ Ok tt → ⊥) → (opened t).card ≡ fresh no_contents
unfolding opened
refused_empty t n = ap fresh (read_empty t n)

pub refused_no_bytes : (t : List ℕ) → ((opened t).verdict ≡ Ok tt → ⊥) → text_of (opened t).card ≡ []
unfolding text_of fresh
refused_no_bytes t n = ap text_of (refused_empty t n)
