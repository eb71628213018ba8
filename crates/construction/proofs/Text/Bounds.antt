-- What every text opens to lies within the bounds of document 01, 'The card and its edges', also where the text is refused.
use Rattle.std.specs.Prelude.{Ok, Err}
use Prim.Native.Nat.{ℕ, zero, suc, ◌+◌, ◌≤◌, ◌<◌, min}
use mathlib.Core.Path.{◌≡◌, refl, ◌∙◌}
use mathlib.Core.List.{List}
use native.Mathlib.Omega.{arith}
use lib.ListN.{length, get_or, length-set}
use lib.Dec.{ltb, eqb}
use Rattle.construction.specs.Types.{Program, Refusal, TooLong, Malformed, CardLine, Contents, Verdict}
use Rattle.construction.specs.Instructions.{no_program}
use Rattle.construction.specs.Weight.{weight, card_weight}
use Rattle.construction.specs.Lines.{card_line, var_line, sheet_line, ins_line}
use Rattle.construction.specs.Opening.{no_contents, refused_at, with_line, ins_from, read_program, with_program, programs_from, with_start, vars_from, at_end}
use Rattle.construction.specs.Opening.{then_programs, after_card, read_card, program_refused_at}
use Rattle.construction.proofs.Basics.{on_test, clash, set_keeps, get_or_replicate_same}
use Rattle.construction.proofs.Simulating.Weights.{weight_none}
use Rattle.construction.proofs.Text.Lines.{card_read}
use Rattle.construction.proofs.Text.Reading.{after_fields, after_length, on_ins, on_sheet, on_weighed, on_program, on_var, on_accepted, on_card_lem}
use mathlib.Core.Bool.{cond}
use native.Mathlib.Nat.{min-le_left, min-le_right}
use Rattle.construction.specs.Changes.{if_program_accepted, change_read}
use Rattle.construction.specs.Readings.{ProgramReading, Reading}

-- the bounds of a card's contents
pub record Bounded (x : Contents) : Type 0 where
  pub process_count : x.process_count ≤ 8
  pub variable_count : x.variable_count ≤ 64
  pub limit : x.limit ≤ 1000000000000000000
  pub starts : length x.starts ≡ 64
  pub programs : length x.programs ≡ 8
  pub lines : (k : ℕ) → length (get_or x.programs k no_program).lines ≡ 32
  pub weights : (k : ℕ) → weight (get_or x.programs k no_program) ≤ 32
  -- a program that touches variables stands on a card that has some
  pub some : (k : ℕ) → 0 < weight (get_or x.programs k no_program) → 0 < x.variable_count

-- a program has 32 places, whatever was read
abbrev pub Lines : ProgramReading → Type 0
Lines r = length r.program.lines ≡ 32

ins_lines : (n : ℕ) (t : List ℕ) (m k : ℕ) (r : ProgramReading) → Lines r → Lines (ins_from n t m k r)
unfolding ins_from
ins_lines n t zero k r h = h
ins_lines n t (suc m) k r h =
    on_ins Lines (ins_line n t r.at) r k (λ x. ins_from n t m (suc k) x)
    (λ y i _. ins_lines n t m (suc k) (with_line r k y i) (rw length-set h)) (λ why. refl)

pub program_lines : (n most : ℕ) (t : List ℕ) (at line : ℕ) → Lines (read_program n most t at line)
unfolding read_program
program_lines n most t at line =
    on_sheet Lines n most t (sheet_line t at) line
    (λ m i _. on_weighed Lines most (line + m) (ins_from n t m 0 (after_length m i (suc line)))
    (λ _. ins_lines n t m 0 (after_length m i (suc line)) refl) refl)
    (λ why. refl)

-- and weighs at most `most` where it is accepted
abbrev pub Light : ℕ → ProgramReading → Type 0
Light most r = r.verdict ≡ Ok tt → weight r.program ≤ most

pub program_light : (n most : ℕ) (t : List ℕ) (at line : ℕ) → Light most (read_program n most t at line)
unfolding read_program
program_light n most t at line =
    on_sheet (Light most) n most t (sheet_line t at) line
    (λ m i _. on_weighed (Light most) most (line + m) (ins_from n t m 0 (after_length m i (suc line))) (λ h. h) (λ e. clash (cc)))
    (λ why e. clash (cc))

-- the bounds hold at the first line and after each later one
empty_bounded : Bounded no_contents
empty_bounded =
    record {
      process_count = omega arith;
      variable_count = omega arith;
      limit = omega arith;
      starts = refl;
      programs = refl;
      lines = λ k. rw (get_or_replicate_same 8 k no_program);
      weights = λ k. rw (get_or_replicate_same 8 k no_program) (omega (arith, weight_none));
      some = λ k h. absurd (omega (arith, weight_none, rw (get_or_replicate_same 8 k no_program) at h));
    }

-- a reading that goes on has variables
pub record Within (r : Reading) : Type 0 where
  pub bounds : Bounded r.contents
  pub some : r.verdict ≡ Ok tt → 0 < r.contents.variable_count

empty_within : (why : Refusal) (line : ℕ) → Within (refused_at why line)
empty_within why line = record { bounds = empty_bounded; some = λ e. clash (cc) }

vars_bounded : (t : List ℕ) (m k : ℕ) (r : Reading) → r.verdict ≡ Ok tt → Within r → Within (vars_from t m k r)
unfolding vars_from
vars_bounded t zero k r e h = h
vars_bounded t (suc m) k r e h =
    let b = h.bounds in
    on_var Within (var_line t r.at) r k (λ x. vars_from t m (suc k) x)
    (λ v i _.
    vars_bounded t m (suc k) (with_start r k v i) refl
    (record {
      bounds =
          record {
            process_count = b.process_count;
            variable_count = b.variable_count;
            limit = b.limit;
            starts = rw length-set b.starts;
            programs = b.programs;
            lines = b.lines;
            weights = b.weights;
            some = b.some;
          };
      some = λ _. h.some e;
    }))
    (λ why. empty_within why r.line)

with_program_lem :
    (r : Reading) (k : ℕ) (x : ProgramReading) → Lines x → weight x.program ≤ 32 → r.verdict ≡ Ok tt → Within r →
    Within (with_program r k x)
with_program_lem r k x l w e h =
    let b = h.bounds in
    record {
      bounds =
          record {
            process_count = b.process_count;
            variable_count = b.variable_count;
            limit = b.limit;
            starts = b.starts;
            programs = rw length-set b.programs;
            lines = λ j.
                set_keeps (λ (y : Program). length y.lines ≡ 32) r.contents.programs k j x.program no_program (λ _. l) (b.lines j);
            weights = λ j. set_keeps (λ (y : Program). weight y ≤ 32) r.contents.programs k j x.program no_program (λ _. w) (b.weights j);
            some = λ j _. h.some e;
          };
      some = λ _. h.some e;
    }

programs_bounded : (t : List ℕ) (m k : ℕ) (r : Reading) → r.verdict ≡ Ok tt → Within r → Within (programs_from t m k r)
unfolding programs_from
programs_bounded t zero k r e h = h
programs_bounded t (suc m) k r e h =
    let x = read_program r.contents.variable_count 32 t r.at r.line in
    on_program Within x.verdict x r k (λ y. programs_from t m (suc k) y)
    (λ a. programs_bounded t m (suc k) (with_program r k x) refl
    (with_program_lem r k x (program_lines r.contents.variable_count 32 t r.at r.line)
    (program_light r.contents.variable_count 32 t r.at r.line a) e h))
    empty_within

end_bounded : (t : List ℕ) (r : Reading) → Within r → Within (at_end t r)
end_bounded t r h = on_test Within (eqb r.at (length t)) (λ _. h) (λ _. empty_within Malformed r.line)

card_bounded : (t : List ℕ) (x : CardLine) → card_line t 0 ≡ x → Within (after_card t x)
card_bounded t x e =
    on_card_lem Within t x
    (λ p n s l i f.
    let c = (card_read t 0 p n s l i (e ∙ f)).fits in
    let first : Within (after_fields p n s l i) = record {
      bounds =
          record {
            process_count = c.process_count.1;
            variable_count = c.variable_count.1;
            limit = c.limit.1;
            starts = refl;
            programs = refl;
            lines = empty_bounded.lines;
            weights = empty_bounded.weights;
            some = λ _ _. omega (arith, c.variable_count);
          };
      some = λ _. omega (arith, c.variable_count);
    } in
    let vars = vars_bounded t n 0 (after_fields p n s l i) refl first in
    let r = vars_from t n 0 (after_fields p n s l i) in
    let programs = on_accepted Within r (λ y. programs_from t s 0 y) (λ a. programs_bounded t s 0 r a vars) (λ _ _ _. vars) in
    let q = then_programs t s r in
    on_accepted Within q (λ y. at_end t y) (λ _. end_bounded t q programs) (λ _ _ _. programs))
    (λ why. empty_within why 1)

pub opened_bounded : (t : List ℕ) → Bounded (read_card t).contents
unfolding read_card
opened_bounded t =
    (on_test Within (ltb 16384 (length t)) (λ _. empty_within TooLong 0) (λ _. card_bounded t (card_line t 0) refl)).bounds

-- the text of a change that is accepted (document 02, order 11)
pub record ChangeBounded (x : Contents) (y : Program) : Type 0 where
  pub ends : min y.length (length y.lines) ≤ 32
  pub light : weight y ≤ 32
  pub lighter : weight y ≤ card_weight x

pub change_bounded : (x : Contents) (t : List ℕ) → (change_read x t).verdict ≡ Ok tt → ChangeBounded x (change_read x t).program
unfolding change_read
change_bounded x t =
    on_test (λ (q : ProgramReading). q.verdict ≡ Ok tt → ChangeBounded x q.program) (ltb 16384 (length t)) (λ _ e. clash (cc))
    (λ _. by r.verdict refl)
  where
    most : ℕ
    most = min 32 (card_weight x)

    r : ProgramReading
    r = read_program x.variable_count most t 0 1

    good : r.verdict ≡ Ok tt → ChangeBounded x r.program
    good e =
        let l = program_light x.variable_count most t 0 1 e in
        record {
          ends = omega (arith, program_lines x.variable_count most t 0 1, min-le_right r.program.length (length r.program.lines));
          light = omega (arith, min-le_left 32 (card_weight x));
          lighter = omega (arith, min-le_right 32 (card_weight x));
        }

    by : (v : Verdict) → r.verdict ≡ v →
        (if_program_accepted v r (cond (eqb r.at (length t)) r (program_refused_at Malformed r.line))).verdict ≡ Ok tt →
        ChangeBounded x (if_program_accepted v r (cond (eqb r.at (length t)) r (program_refused_at Malformed r.line))).program
    by (Ok _) z =
        on_test (λ (q : ProgramReading). q.verdict ≡ Ok tt → ChangeBounded x q.program) (eqb r.at (length t)) (λ _. good) (λ _ e. clash (cc))
    by (Err said) z = λ e. good e
