-- What every text opens to fits its words, also where the text is refused: bytes, starting values of 32 bits, and programs whose operands fit.
use Prim.Native.Nat.{ℕ, zero, suc, ◌+◌, ◌%◌, ◌<◌, ◌≤◌}
use mathlib.Core.Path.{◌≡◌, refl, sym, ◌∙◌, subst}
use mathlib.Core.Bool.{Bool, true, false, not}
use mathlib.Core.List.{List}
use native.Mathlib.Omega.{arith}
use lib.Dec.{eqb, ltb}
use lib.ListN.{length, get_or, replicate, length-set}
use borrow.Author.Tests.{eqb-true, eqb-false, not-false}
use Rattle.construction.specs.declared.{texts.Contents.Contents, programs.Line.Line, programs.Instruction.Instruction, programs.Encoded.Encoded}
use Rattle.construction.specs.declared.{programs.Format.Format}
use Rattle.std.specs.Prelude.{Option, None, Some, Ok}
use Rattle.construction.specs.Types.{Decoded, CardLine}
use Rattle.construction.specs.Instructions.{codes, row_of, instruction_of, ranged, unused_zero, each_operand, decode, decode_as, encoded, no_line, no_program}
use Rattle.construction.specs.Lines.{card_line, var_line, sheet_line, ins_line}
use Rattle.construction.specs.Opening.{no_contents, with_line, ins_from, read_program, with_program, programs_from, with_start, vars_from, at_end, then_programs}
use Rattle.construction.specs.Opening.{after_card, read_card}
use Rattle.construction.specs.Readings.{ProgramReading, Reading}
use Rattle.construction.proofs.Basics.{on_test, clash, set_keeps, get_or_replicate_same}
use Rattle.construction.proofs.Text.Decoding.{rows_at, decode_constant, decode_bytes}
use Rattle.construction.proofs.Text.Lines.{card_read, var_read, sheet_read, ins_read}
use Rattle.construction.proofs.Text.Reading.{after_fields, after_length, on_ins, on_sheet, on_weighed, on_program, on_var, on_accepted, on_card_lem}
use Rattle.codes.proofs.Values.{half_fits, byte_fits}
use Rattle.codes.proofs.Programs.{FitsInstruction, FitsProgram, no_program_fits}

-- an instruction of bytes fits
bytes_fit : (code a b c : ℕ) → a < 256 → b < 256 → c < 256 → FitsInstruction (instruction_of (encoded code a b c))
bytes_fit code =
    rows_at (λ k r. (a b c : ℕ) → a < 256 → b < 256 → c < 256 → FitsInstruction (r.instruction a b c)) codes (
      (λ a b c p q s. tt),
      (
        (λ a b c p q s. (p, q)),
        (
          (λ a b c p q s. (p, omega arith)),
          (
            (λ a b c p q s. (p, q)),
            (
              (λ a b c p q s. (p, q)),
              (
                (λ a b c p q s. (p, q)),
                (
                  (λ a b c p q s. (p, q)),
                  (
                    (λ a b c p q s. (p, q)),
                    (
                      (λ a b c p q s. (p, q)),
                      (
                        (λ a b c p q s. (p, q, s)),
                        (
                          (λ a b c p q s. (p, q, s)),
                          (
                            (λ a b c p q s. (p, q)),
                            (
                              (λ a b c p q s. tt),
                              ((λ a b c p q s. p), ((λ a b c p q s. p), (λ k a b c p q s. tt))),
                            ),
                          ),
                        ),
                      ),
                    ),
                  ),
                ),
              ),
            ),
          ),
        ),
      ),
    )
    code

-- and so does every one that is decoded
module _ (n : ℕ) (x : Encoded) (h : n ≤ 256) (y : Instruction) (v : decode n x ≡ Ok y) where
  valid_fits :
      {f : Format} → (row_of x.code).format ≡ Some f → each_operand (ranged n) f x ≡ true → each_operand unused_zero f x ≡ true →
      (k : Bool) → eqb x.code 2 ≡ k → FitsInstruction y
  valid_fits e t z true k =
      let w : Ok (Instruction.Constant (x.a % 256) (x.b % 4294967296)) ≡ Ok y =
      decode_constant n x refl e refl t refl h z (eqb-true x.code 2 k) ∙ v in
      let i : Instruction.Constant (x.a % 256) (x.b % 4294967296) ≡ y = cc in
      subst FitsInstruction i (byte_fits x.a, half_fits x.b)
  valid_fits e t z false k =
      let w : Ok (instruction_of (encoded x.code (x.a % 256) (x.b % 256) (x.c % 256))) ≡ Ok y =
      decode_bytes n x refl e refl t refl h z (eqb-false x.code 2 k) refl ∙ v in
      let i : instruction_of (encoded x.code (x.a % 256) (x.b % 256) (x.c % 256)) ≡ y = cc in
      subst FitsInstruction i (bytes_fit x.code (x.a % 256) (x.b % 256) (x.c % 256) (byte_fits x.a) (byte_fits x.b) (byte_fits x.c))

  by_format : (o : Option Format) → (row_of x.code).format ≡ o → decode_as o n x ≡ Ok y → FitsInstruction y
  by_format None e = λ d. clash (cc)
  by_format (Some f) e =
      on_test (λ (d : Decoded). d ≡ Ok y → FitsInstruction y) (not (each_operand (ranged n) f x))
      (λ t d. clash (cc))
      (λ t. on_test (λ (d : Decoded). d ≡ Ok y → FitsInstruction y) (not (each_operand unused_zero f x))
      (λ z d. clash (cc))
      (λ z d. valid_fits e (not-false _ t) (not-false _ z) (eqb x.code 2) refl))

  decoded_fits : FitsInstruction y
  unfolding decode
  decoded_fits = by_format (row_of x.code).format refl v

-- a program, line by line
abbrev FitsRead : ProgramReading → Type 0
FitsRead r = FitsProgram r.program

ins_fits : (n : ℕ) → n ≤ 256 → (t : List ℕ) (m k : ℕ) (r : ProgramReading) → FitsRead r → FitsRead (ins_from n t m k r)
unfolding ins_from
ins_fits n h t zero k r f = f
ins_fits n h t (suc m) k r f =
    on_ins FitsRead (ins_line n t r.at) r k (λ x. ins_from n t m (suc k) x)
    (λ y i e.
    let q = ins_read n t r.at y i e in
    ins_fits n h t m (suc k) (with_line r k y i)
    (record {
      size = f.size;
      lines = λ j.
          set_keeps (λ (x : Line). FitsInstruction x.instruction) r.program.lines k j (record { instruction = y }) no_line
          (λ _. decoded_fits n q.numbers h y q.fits) (f.lines j);
      count = rw length-set f.count;
    }))
    (λ why. no_program_fits)

program_fits : (n most : ℕ) → n ≤ 256 → (t : List ℕ) (at line : ℕ) → FitsRead (read_program n most t at line)
unfolding read_program
program_fits n most h t at line =
    on_sheet FitsRead n most t (sheet_line t at) line
    (λ m i e. on_weighed FitsRead most (line + m) (ins_from n t m 0 (after_length m i (suc line)))
    (λ _. ins_fits n h t m 0 (after_length m i (suc line))
    (record { size = omega (arith, (sheet_read t at m i e).fits); lines = no_program_fits.lines; count = refl })) no_program_fits)
    (λ why. no_program_fits)

-- the contents of a text, line by line
pub record FitsContents (x : Contents) : Type 0 where
  pub process_count : x.process_count < 256
  pub variable_count : x.variable_count < 256
  pub program_count : x.program_count < 256
  pub starts : (k : ℕ) → get_or x.starts k 0 < 4294967296
  pub programs : (k : ℕ) → FitsProgram (get_or x.programs k no_program)

abbrev FitsReading : Reading → Type 0
FitsReading r = FitsContents r.contents

begun_fits : (p n s l : ℕ) → p < 256 → n < 256 → s < 256 → FitsReading (after_fields p n s l 0)
begun_fits p n s l h k m =
    record {
      process_count = h;
      variable_count = k;
      program_count = m;
      starts = λ j. let e : get_or (replicate {A = ℕ} 64 0) j 0 ≡ 0 = get_or_replicate_same 64 j 0 in omega arith;
      programs = λ j. subst FitsProgram (sym (get_or_replicate_same 8 j no_program)) no_program_fits;
    }

empty_fits : FitsContents no_contents
empty_fits = begun_fits 0 0 0 0 (omega arith) (omega arith) (omega arith)

vars_fit : (t : List ℕ) (m k : ℕ) (r : Reading) → FitsReading r → FitsReading (vars_from t m k r)
unfolding vars_from
vars_fit t zero k r f = f
vars_fit t (suc m) k r f =
    on_var FitsReading (var_line t r.at) r k (λ x. vars_from t m (suc k) x)
    (λ v i e.
    vars_fit t m (suc k) (with_start r k v i)
    (record {
      process_count = f.process_count;
      variable_count = f.variable_count;
      program_count = f.program_count;
      starts = λ j. set_keeps (λ (x : ℕ). x < 4294967296) r.contents.starts k j v 0 (λ _. (var_read t r.at v i e).fits) (f.starts j);
      programs = f.programs;
    }))
    (λ why. empty_fits)

programs_fit : (t : List ℕ) (m k : ℕ) (r : Reading) → FitsReading r → FitsReading (programs_from t m k r)
unfolding programs_from
programs_fit t zero k r f = f
programs_fit t (suc m) k r f =
    let n = r.contents.variable_count in
    let x = read_program n 32 t r.at r.line in
    on_program FitsReading x.verdict x r k (λ y. programs_from t m (suc k) y)
    (λ a. programs_fit t m (suc k) (with_program r k x)
    (record {
      process_count = f.process_count;
      variable_count = f.variable_count;
      program_count = f.program_count;
      starts = f.starts;
      programs = λ j.
          set_keeps FitsProgram r.contents.programs k j x.program no_program
          (λ _. program_fits n 32 (omega (arith, f.variable_count)) t r.at r.line)
          (f.programs j);
    }))
    (λ why line. empty_fits)

card_fits_lem : (t : List ℕ) (x : CardLine) → card_line t 0 ≡ x → FitsReading (after_card t x)
card_fits_lem t x e =
    on_card_lem FitsReading t x
    (λ p n s l i f.
    let c = (card_read t 0 p n s l i (e ∙ f)).fits in
    let r = vars_from t n 0 (after_fields p n s l i) in
    let vars = vars_fit t n 0 (after_fields p n s l i)
    (begun_fits p n s l (omega (arith, c.process_count)) (omega (arith, c.variable_count)) (omega (arith, c.program_count))) in
    let programs = on_accepted FitsReading r (λ y. programs_from t s 0 y) (λ _. programs_fit t s 0 r vars) (λ _ _ _. vars) in
    let q = then_programs t s r in
    on_accepted FitsReading q (λ y. at_end t y) (λ _. on_test FitsReading (eqb q.at (length t)) (λ _. programs) (λ _. empty_fits)) (λ _ _ _. programs))
    (λ why. empty_fits)

pub opened_fits : (t : List ℕ) → FitsContents (read_card t).contents
unfolding read_card
opened_fits t = on_test FitsReading (ltb 16384 (length t)) (λ _. empty_fits) (λ _. card_fits_lem t (card_line t 0) refl)
