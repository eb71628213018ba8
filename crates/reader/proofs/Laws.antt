-- The reading of a card text, line by line (document 01, 'The card text'): bounds of the line's number, what code is given of a reading, and what follows
-- the first line.
use Rattle.std.specs.Prelude.{Ok, Err}
use Rattle.std.proofs.Common.{add-one}
use mathlib.Core.Bool.{cond}
use mathlib.Core.Path.{◌≡◌, sym, ◌∙◌, ap}
use mathlib.Core.List.{List}
use Prim.Native.Nat.{ℕ, zero, suc, ◌+◌, ◌-◌, ◌<◌, ◌≤◌}
use lib.Dec.{eqb}
use lib.ListN.{length}
use native.Mathlib.Omega.{arith}
use borrow.Author.Tests.{eq-eqb, ne_eqb, lt-ltb, le-ltb}
use Rattle.construction.specs.declared.{programs.Program.Program, texts.Contents.Contents}
use Rattle.construction.specs.declared.answers.Refusal.TheVariants.{Malformed, TooHeavy}
use Rattle.construction.specs.Types.{Verdict, told_at}
use Rattle.construction.specs.declared.{texts.RefusedAt.RefusedAt}
use Rattle.construction.specs.Readings.{ProgramReading, Reading}
use Rattle.construction.specs.Weight.{weight}
use Rattle.construction.specs.Lines.{var_line, sheet_line, ins_line}
use Rattle.construction.specs.Opening.{so_far, program_refused_at, weighed, with_line, ins_from, read_program, programs_from, with_start, vars_from, if_accepted}
use Rattle.construction.specs.Opening.{at_end, then_end, then_programs}
use Rattle.construction.specs.Changes.{if_program_accepted, program_then_end, program_text}
use Rattle.construction.proofs.Text.Given.{given_ok, given_err}
use Rattle.construction.proofs.Text.Lines.{sheet_read}
use Rattle.construction.proofs.Text.Reading.{after_length, on_ins, on_sheet, on_weighed, on_var}
use Rattle.reader.specs.declared.Read.{Read}
use Rattle.reader.specs.Told.{program_told, contents_told}

-- ---- a loop that has k of its m turns behind it
pub one_less : (m k : ℕ) → k < m → m - k ≡ suc (m - (k + 1))
one_less m k h = omega arith

-- ---- the number of the line after a program, and after the `var` lines
ins_line_lem : (n : ℕ) (t : List ℕ) (m k : ℕ) (r : ProgramReading) → (ins_from n t m k r).line ≤ r.line + m
unfolding ins_from
ins_line_lem n t zero k r = omega arith
ins_line_lem n t (suc m) k r =
    on_ins (λ x. x.line ≤ r.line + suc m) (ins_line n t r.at) r k (λ x. ins_from n t m (suc k) x)
    (λ y i _. omega (arith, ins_line_lem n t m (suc k) (with_line r k y i))) (λ why. omega arith)

pub program_line : (n most : ℕ) (t : List ℕ) (at line : ℕ) → (read_program n most t at line).line ≤ line + 33
unfolding read_program
program_line n most t at line =
    on_sheet (λ x. x.line ≤ line + 33) n most t (sheet_line t at) line
    (λ m i e. on_weighed (λ x. x.line ≤ line + 33) most (line + m) (ins_from n t m 0 (after_length m i (suc line)))
    (λ _. omega (arith, ins_line_lem n t m 0 (after_length m i (suc line)), (sheet_read t at m i e).fits)) (omega (arith, (sheet_read t at m i e).fits)))
    (λ why. omega arith)

pub vars_line : (t : List ℕ) (m k : ℕ) (r : Reading) → (vars_from t m k r).line ≤ r.line + m
unfolding vars_from
vars_line t zero k r = omega arith
vars_line t (suc m) k r =
    on_var (λ x. x.line ≤ r.line + suc m) (var_line t r.at) r k (λ x. vars_from t m (suc k) x)
    (λ v i _. omega (arith, vars_line t m (suc k) (with_start r k v i))) (λ why. omega arith)

-- ---- what code was given of a reading
pub program_read : (r : ProgramReading) {x : Read Program} → Ok x ≡ program_told r → r ≡ record { verdict = Ok tt; program = x.value; at = x.at; line = x.line }
program_read r e =
    let g = given_ok r.verdict _ e in
    λ i. record { verdict = g.0 i; program = (sym g.1 i).value; at = (sym g.1 i).at; line = (sym g.1 i).line }

pub contents_read : (r : Reading) {x : Read Contents} → Ok x ≡ contents_told r → r ≡ so_far x.value x.at x.line
contents_read r e =
    let g = given_ok r.verdict _ e in
    λ i. record { verdict = g.0 i; contents = (sym g.1 i).value; at = (sym g.1 i).at; line = (sym g.1 i).line }

-- ---- a program: its lines, then its weight
module _ (n most : ℕ) (t : List ℕ) (at line : ℕ) {m i : ℕ} (e : sheet_line t at ≡ Ok (record { value = m; next = i })) where
  abbrev lines : ProgramReading
  lines = ins_from n t m 0 (after_length m i (line + 1))

  is : read_program n most t at line ≡ weighed most (line + m) lines
  unfolding read_program
  is = rw (e, add-one)

  pub lines_refused : {w : RefusedAt} → Err w ≡ program_told lines → Err w ≡ program_told (read_program n most t at line)
  lines_refused q = let g = given_err lines.verdict _ q in rw (is, g)

  module _ {x : Read Program} (q : Ok x ≡ program_told lines) where
    weighs : read_program n most t at line ≡ weighed most (line + m) (record { verdict = Ok tt; program = x.value; at = x.at; line = x.line })
    weighs = is ∙ ap (λ (r : ProgramReading). weighed most (line + m) r) (program_read lines q)

    pub heavy : most < weight x.value → Err (told_at TooHeavy (line + m)) ≡ program_told (read_program n most t at line)
    heavy h = rw (weighs, lt-ltb most (weight x.value) h)

    pub light : weight x.value ≤ most → Ok x ≡ program_told (read_program n most t at line)
    light h = rw (weighs, le-ltb most (weight x.value) h)

-- ---- what follows the first line
module _ (t : List ℕ) (s : ℕ) (a : Reading) where
  abbrev whole : Reading
  whole = then_end t (then_programs t s a)

  pub vars_refused : {w : RefusedAt} → Err w ≡ contents_told a → Err w ≡ contents_told whole
  vars_refused {w} q =
      let g = given_err a.verdict _ q in
      let stop : whole ≡ a = ap (λ (v : Verdict). then_end t (if_accepted v a (λ x. programs_from t s 0 x))) g ∙ ap (λ (v : Verdict). if_accepted v a (λ x. at_end t x)) g in
      rw (stop, g)

  module _ {x : Read Contents} (q : Ok x ≡ contents_told a) where
    abbrev programs : Reading
    programs = programs_from t s 0 (so_far x.value x.at x.line)

    goes : whole ≡ then_end t programs
    goes = ap (λ (r : Reading). then_end t (then_programs t s r)) (contents_read a q)

    pub programs_refused : {w : RefusedAt} → Err w ≡ contents_told programs → Err w ≡ contents_told whole
    programs_refused r =
        let g = given_err programs.verdict _ r in
        let stop : then_end t programs ≡ programs = ap (λ (v : Verdict). if_accepted v programs (λ z. at_end t z)) g in
        rw (goes, stop, g)

    module _ {y : Read Contents} (r : Ok y ≡ contents_told programs) where
      ends : whole ≡ at_end t (so_far y.value y.at y.line)
      ends = goes ∙ ap (λ (z : Reading). then_end t z) (contents_read programs r)

      pub body_whole : y.at ≡ length t → Ok y ≡ contents_told whole
      body_whole h = rw (ends, eq-eqb y.at (length t) h)

      pub body_left : (y.at ≡ length t → ⊥) → Err (told_at Malformed y.line) ≡ contents_told whole
      body_left h = rw (ends, ne_eqb y.at (length t) h)

-- ---- the text of a change: one program, and nothing after it
module _ (n most : ℕ) (t : List ℕ) (short : length t ≤ 16384) where
  abbrev program : ProgramReading
  program = read_program n most t 0 1

  begins : program_text n most t ≡ program_then_end t program
  begins = rw (le-ltb 16384 (length t) short)

  pub change_refused : {w : RefusedAt} → Err w ≡ program_told program → Err w ≡ program_told (program_text n most t)
  change_refused q =
      let g = given_err program.verdict _ q in
      let stop : program_then_end t program ≡ program =
      ap (λ (v : Verdict). if_program_accepted v program (cond (eqb program.at (length t)) program (program_refused_at Malformed program.line))) g in
      rw (begins, stop, g)

  module _ {x : Read Program} (q : Ok x ≡ program_told program) where
    finishes : program_text n most t ≡ program_then_end t (record { verdict = Ok tt; program = x.value; at = x.at; line = x.line })
    finishes = begins ∙ ap (λ (r : ProgramReading). program_then_end t r) (program_read program q)

    pub change_whole : x.at ≡ length t → Ok x ≡ program_told (program_text n most t)
    change_whole h = rw (finishes, eq-eqb x.at (length t) h)

    pub change_left : (x.at ≡ length t → ⊥) → Err (told_at Malformed x.line) ≡ program_told (program_text n most t)
    change_left h = rw (finishes, ne_eqb x.at (length t) h)
