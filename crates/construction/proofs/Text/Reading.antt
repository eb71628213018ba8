-- Cases on what a line of a card text yields (document 01, 'The card text').
use Rattle.std.specs.Prelude.{Ok, Err}
use mathlib.Core.Path.{◌≡◌, refl}
use mathlib.Core.List.{List}
use lib.Dec.{ltb}
use Prim.Native.Nat.{ℕ, suc, ◌+◌, ◌≤◌}
use lib.ListN.{replicate}
use borrow.Author.Tests.{ltb-false}
use Rattle.grammar.specs.Reading.{found}
use Rattle.construction.specs.Types.{Instruction, Refusal, TooHeavy, CardLine, VarLine, SheetLine, InsLine, Verdict}
use Rattle.construction.specs.Instructions.{no_line}
use Rattle.construction.specs.Weight.{weight}
use Rattle.construction.specs.Opening.{refused_at, program_refused_at, with_line, next_ins, ins_from, judge_weight, weighed, program_after, with_program}
use Rattle.construction.specs.Opening.{next_program, with_start, next_var, vars_from, begun, program_so_far, so_far, if_accepted, then_end, then_programs}
use Rattle.construction.specs.Opening.{after_card}
use Rattle.construction.specs.Types.{told_at}
use Rattle.construction.specs.Readings.{ProgramReading, Reading}
use Rattle.construction.proofs.Basics.{on_test, clash}
use Rattle.construction.specs.Lines.{card_numbers}

-- ---- what is read after the `card` line and after a `sheet` line
abbrev pub after_fields : ℕ → ℕ → ℕ → ℕ → ℕ → Reading
after_fields p n s l i = so_far (begun p n s l) i 2

abbrev pub after_length : ℕ → ℕ → ℕ → ProgramReading
after_length m i line = program_so_far m (replicate 32 no_line) i line

-- ---- by cases on what a line yields, which is in hand where it goes on
pub on_ins :
    (P : ProgramReading → Type 0) (x : InsLine) (r : ProgramReading) (k : ℕ) (go : ProgramReading → ProgramReading) →
    ((y : Instruction) (i : ℕ) → x ≡ Ok (found y i) → P (go (with_line r k y i))) → ((why : Refusal) → P (program_refused_at why r.line)) →
    P (next_ins x r k go)
on_ins P (Ok y) r k go f g = f y.value y.next refl
on_ins P (Err why) r k go f g = g why

pub on_sheet :
    (P : ProgramReading → Type 0) (n most : ℕ) (t : List ℕ) (x : SheetLine) (line : ℕ) →
    ((m i : ℕ) → x ≡ Ok (found m i) → P (weighed most (line + m) (ins_from n t m 0 (after_length m i (suc line))))) →
    ((why : Refusal) → P (program_refused_at why line)) →
    P (program_after n most t x line)
on_sheet P n most t (Ok y) line f g = f y.value y.next refl
on_sheet P n most t (Err why) line f g = g why

-- a program that was read is refused for its weight, or stays; one that stays and is accepted weighs at most `most`
pub on_weighed :
    (P : ProgramReading → Type 0) (most last : ℕ) (r : ProgramReading) →
    ((r.verdict ≡ Ok tt → weight r.program ≤ most) → P r) → P (program_refused_at TooHeavy last) → P (weighed most last r)
on_weighed P most last r f g = by r.verdict refl
  where
    by : (v : Verdict) → r.verdict ≡ v → P (judge_weight most v last r)
    by (Ok _) e = on_test P (ltb most (weight r.program)) (λ _. g) (λ l. f (λ _. ltb-false most _ l))
    by (Err said) e = f (λ a. clash (cc))

pub on_program :
    (P : Reading → Type 0) (v : Verdict) (x : ProgramReading) (r : Reading) (k : ℕ) (go : Reading → Reading) →
    (v ≡ Ok tt → P (go (with_program r k x))) → ((why : Refusal) (line : ℕ) → P (refused_at why line)) → P (next_program v x r k go)
on_program P (Ok _) x r k go f g = f refl
on_program P (Err e) x r k go f g = g e.refusal e.line

pub on_var :
    (P : Reading → Type 0) (x : VarLine) (r : Reading) (k : ℕ) (go : Reading → Reading) →
    ((v i : ℕ) → x ≡ Ok (found v i) → P (go (with_start r k v i))) → ((why : Refusal) → P (refused_at why r.line)) → P (next_var x r k go)
on_var P (Ok y) r k go f g = f y.value y.next refl
on_var P (Err why) r k go f g = g why

pub on_accepted :
    (P : Reading → Type 0) (r : Reading) (go : Reading → Reading) →
    (r.verdict ≡ Ok tt → P (go r)) → ((why : Refusal) (line : ℕ) → r.verdict ≡ Err (told_at why line) → P r) →
    P (if_accepted r.verdict r go)
on_accepted P r go f g = by r.verdict refl
  where
    by : (v : Verdict) → r.verdict ≡ v → P (if_accepted v r go)
    by (Ok _) e = f e
    by (Err said) e = g said.refusal said.line e

pub on_card_lem :
    (P : Reading → Type 0) (t : List ℕ) (x : CardLine) →
    ((p n s l i : ℕ) → x ≡ Ok (found (card_numbers p n s l) i) → P (then_end t (then_programs t s (vars_from t n 0 (after_fields p n s l i))))) →
    ((why : Refusal) → P (refused_at why 1)) → P (after_card t x)
on_card_lem P t (Ok y) f g =
    let v = y.value in f v.process_count v.variable_count v.program_count v.limit y.next refl
on_card_lem P t (Err why) f g = g why
