-- What is read of a program's text fits words, so that it can be put into a block: in a card text and in the text of a change, also where it is refused.
-- A card has less than 256 variables.
use Rattle.std.specs.Prelude.{Ok, Err, Option, None, Some}
use Prim.Native.Nat.{ℕ, zero, suc, ◌+◌, ◌≤◌, ◌<◌}
use mathlib.Core.Path.{◌≡◌, refl, subst}
use mathlib.Core.Bool.{true, cond, not}
use mathlib.Core.List.{List}
use native.Mathlib.Omega.{arith}
use lib.Dec.{ltb, eqb}
use lib.ListN.{length, length-set}
use borrow.Author.Tests.{ltb-true, not-false}
use Rattle.construction.specs.declared.{programs.Format.Format, programs.Encoded.Encoded, programs.Instruction.Instruction}
use Rattle.construction.specs.declared.{programs.Line.Line}
use Rattle.construction.specs.declared.answers.Refusal.TheVariants.{Malformed}
use Rattle.construction.specs.Instructions.{no_line, codes, row_of, instruction_of, ranged, unused_zero, each_operand, decode_as, decode}
use Rattle.construction.specs.Lines.{sheet_line, ins_line}
use Rattle.construction.specs.Opening.{program_refused_at, with_line, ins_from, read_program}
use Rattle.construction.specs.Changes.{if_program_accepted, program_text}
use Rattle.construction.specs.Types.{Verdict, Decoded}
use Rattle.construction.specs.Readings.{ProgramReading}
use Rattle.construction.proofs.Basics.{on_test, and_true, clash, set_keeps}
use Rattle.construction.proofs.Text.Lines.{range_true, sheet_read, ins_read}
use Rattle.construction.proofs.Text.Reading.{after_length, on_ins, on_sheet, on_weighed}
use Rattle.construction.proofs.Text.Decoding.{rows_at}
use Rattle.codes.proofs.Programs.{FitsInstruction, FitsProgram, no_program_fits}

-- an operand within the range of its kind
register : (x : ℕ) → ltb x 4 ≡ true → x < 256
register x e = omega (arith, ltb-true x 4 e)

variable : (n x : ℕ) → n ≤ 256 → ltb x n ≡ true → x < 256
variable n x h e = omega (arith, ltb-true x n e)

-- each row of the table of codes
abbrev FitAs : Option Format → (ℕ → ℕ → ℕ → Instruction) → Type 0
FitAs None make = Unit {0}
FitAs (Some f) make =
    (n a b c : ℕ) → n ≤ 256 → ranged n f.a a ≡ true → ranged n f.b b ≡ true → ranged n f.c c ≡ true → FitsInstruction (make a b c)

row_fits : (k : ℕ) → FitAs (row_of k).format (row_of k).instruction
row_fits =
    rows_at (λ k r. FitAs r.format r.instruction) codes (
      tt,
      (
        λ n a b c h p q r. (register a p, register b q),
        (
          λ n a b c h p q r. (register a p, ltb-true b 4294967296 q),
          (
            λ n a b c h p q r. (register a p, variable n b h q),
            (
              λ n a b c h p q r. (variable n a h p, register b q),
              (
                λ n a b c h p q r. (register a p, register b q),
                (
                  λ n a b c h p q r. (register a p, register b q),
                  (
                    λ n a b c h p q r. (register a p, register b q),
                    (
                      λ n a b c h p q r. (register a p, register b q),
                      (
                        λ n a b c h p q r. (register a p, register b q, omega (arith, range_true 1 31 c r)),
                        (
                          λ n a b c h p q r. (register a p, register b q, omega (arith, range_true 1 31 c r)),
                          (
                            λ n a b c h p q r. (register a p, register b q),
                            (
                              λ n a b c h p q r. tt,
                              (λ n a b c h p q r. register a p, (λ n a b c h p q r. register a p, λ k. tt)),
                            ),
                          ),
                        ),
                      ),
                    ),
                  ),
                ),
              ),
            ),
          ),
        ),
      ),
    )

module _ (n : ℕ) (small : n ≤ 256) where
  -- an instruction that decodes
  decoded_fits : (x : Encoded) (y : Instruction) → decode n x ≡ Ok y → FitsInstruction y
  unfolding decode
  decoded_fits x y = by (row_of x.code).format refl
    where
      by : (o : Option Format) → (row_of x.code).format ≡ o → decode_as o n x ≡ Ok y → FitsInstruction y
      by None e = λ d. clash (cc)
      by (Some f) e =
          on_test (λ (d : Decoded). d ≡ Ok y → FitsInstruction y) (not (each_operand (ranged n) f x))
          (λ t d. clash (cc))
          (λ t. on_test (λ (d : Decoded). d ≡ Ok y → FitsInstruction y) (not (each_operand unused_zero f x))
          (λ z d. clash (cc))
          (λ z d.
          let first = and_true (ranged n f.a x.a) _ (not-false _ t) in
          let next = and_true (ranged n f.b x.b) _ first.1 in
          let fit = subst (λ (o : Option Format). FitAs o (row_of x.code).instruction) e (row_fits x.code) in
          let same : instruction_of x ≡ y = cc in
          subst FitsInstruction same (fit n x.a x.b x.c small first.0 next.0 next.1)))

  module _ (t : List ℕ) where
    abbrev Fits : ProgramReading → Type 0
    Fits r = FitsProgram r.program

    line_fits : (r : ProgramReading) (k : ℕ) (y : Instruction) (i : ℕ) → FitsInstruction y → Fits r → Fits (with_line r k y i)
    line_fits r k y i p h =
        record {
          size = h.size;
          lines = λ j. set_keeps (λ (x : Line). FitsInstruction x.instruction) r.program.lines k j (record { instruction = y }) no_line (λ _. p)
              (h.lines j);
          count = rw length-set h.count;
        }

    lines_fit : (m k : ℕ) (r : ProgramReading) → Fits r → Fits (ins_from n t m k r)
    unfolding ins_from
    lines_fit zero k r h = h
    lines_fit (suc m) k r h =
        on_ins Fits (ins_line n t r.at) r k (λ x. ins_from n t m (suc k) x)
        (λ y i e.
        let read = ins_read n t r.at y i e in
        lines_fit m (suc k) (with_line r k y i) (line_fits r k y i (decoded_fits read.numbers y read.fits) h))
        (λ why. no_program_fits)

    length_fits : (m i line : ℕ) → m ≤ 32 → Fits (after_length m i line)
    length_fits m i line h = record { size = omega arith; lines = no_program_fits.lines; count = refl }

    -- A PROGRAM THAT IS READ FITS, at whatever place of a text
    pub program_read_fits : (most at line : ℕ) → FitsProgram (read_program n most t at line).program
    unfolding read_program
    program_read_fits most at line =
        on_sheet Fits n most t (sheet_line t at) line
        (λ m i e.
        on_weighed Fits most (line + m) (ins_from n t m 0 (after_length m i (suc line)))
        (λ _. lines_fit m 0 (after_length m i (suc line)) (length_fits m i (suc line) (sheet_read t at m i e).fits.1)) no_program_fits)
        (λ why. no_program_fits)

    -- and so does the text of a change
    pub change_read_fits : (most : ℕ) → FitsProgram (program_text n most t).program
    change_read_fits most =
        on_test Fits (ltb 16384 (length t)) (λ _. no_program_fits) (λ _. by (read_program n most t 0 1).verdict)
      where
        r : ProgramReading
        r = read_program n most t 0 1

        by : (v : Verdict) → Fits (if_program_accepted v r (cond (eqb r.at (length t)) r (program_refused_at Malformed r.line)))
        by (Ok _) = on_test Fits (eqb r.at (length t)) (λ _. program_read_fits most 0 1) (λ _. no_program_fits)
        by (Err e) = program_read_fits most 0 1
