-- Why the text of a change is refused (document 02, order 11): its length, a line, or its weight; 6, 15 and 16 are never among these.
use Rattle.std.specs.Prelude.{Ok, Err}
use Prim.Native.Nat.{ℕ, zero, suc, ◌+◌, ◌≤◌, ◌<◌, min}
use mathlib.Core.Path.{◌≡◌, refl, sym, ap, subst}
use mathlib.Core.Bool.{cond, not}
use mathlib.Core.Logic.{◌⊎◌, inl, inr, ⊎_elim}
use mathlib.Core.List.{List}
use native.Mathlib.Omega.{arith}
use native.Mathlib.Nat.{min-le_left, min-le_right, le-min}
use native.Mathlib.Decide.{dec_lt}
use lib.ListN.{length}
use lib.Dec.{eqb, ltb}
use borrow.Author.Tests.{ltb-true, ltb-false, lt-ltb, le-ltb}
use Rattle.std.specs.Prelude.{Option, Some, None}
use Rattle.grammar.specs.declared.{Found.Found, Four.Four}
use Rattle.grammar.specs.Reading.{found, field, four, has_word}
use Rattle.construction.specs.Types.{Instruction, Encoded, Format, Decoded, Refusal, TooLong, Malformed, OutOfRange, UnknownCode}
use Rattle.construction.specs.Types.{NoProcess, NoProgram, Busy, NotBusy, NoPlace, LimitReached, ShortBuffer, OperandOutOfRange, UnusedOperand, TooHeavy}
use Rattle.construction.specs.Types.{NotAhead, Unsettled, SheetLine, InsLine, Contents, Verdict, TooLarge, BadTerms, NoAllowance}
use Rattle.construction.specs.Instructions.{in_range, row_of, ranged, unused_zero, each_operand, decode_as, decode, encoded}
use Rattle.construction.specs.Weight.{weight, card_weight}
use Rattle.construction.specs.Lines.{sheet_word, ins_word, judge_sheet, sheet_line, ins_of, judge_ins, ins_line}
use Rattle.construction.specs.Opening.{program_refused_at, with_line, next_ins, ins_from, judge_weight, weighed, program_after, read_program}
use Rattle.construction.specs.Changes.{if_program_accepted, program_then_end, change_read}
use Rattle.construction.specs.Texts.{instructions_read, Overweight}
use Rattle.construction.specs.Types.{told_at}
use Rattle.construction.specs.Readings.{ProgramReading}
use Rattle.construction.proofs.Basics.{on_test}
use Rattle.construction.proofs.Text.Reading.{after_length}

-- the refusals of a line: 2, 3, 4, 12, 13
data OfLine : Refusal → Type 0 where
  misformed : OfLine Malformed
  range : OfLine OutOfRange
  code : OfLine UnknownCode
  operand : OfLine OperandOutOfRange
  unused : OfLine UnusedOperand

abbrev SheetWhy : SheetLine → Type 0
SheetWhy (Ok x) = Unit {0}
SheetWhy (Err why) = OfLine why

sheet_why : (t : List ℕ) (at : ℕ) → SheetWhy (sheet_line t at)
unfolding sheet_line judge_sheet
sheet_why t at = on_test SheetWhy (has_word t at sheet_word) (λ _. by (field t 10 (at + 6))) (λ _. OfLine.misformed)
  where
    by : (x : Option (Found ℕ)) → SheetWhy (judge_sheet x)
    by (Some x) = on_test SheetWhy (in_range 1 32 x.value) (λ _. tt) (λ _. OfLine.range)
    by None = OfLine.misformed

abbrev InsWhy : InsLine → Type 0
InsWhy (Ok x) = Unit {0}
InsWhy (Err why) = OfLine why

decode_why : (o : Option Format) (n : ℕ) (x : Encoded) (i : ℕ) → InsWhy (ins_of (decode_as o n x) i)
decode_why None n x i = OfLine.code
decode_why (Some f) n x i =
    on_test (λ (d : Decoded). InsWhy (ins_of d i)) (not (each_operand (ranged n) f x)) (λ _. OfLine.operand)
    (λ _. on_test (λ (d : Decoded). InsWhy (ins_of d i)) (not (each_operand unused_zero f x)) (λ _. OfLine.unused) (λ _. tt))

ins_why : (n : ℕ) (t : List ℕ) (at : ℕ) → InsWhy (ins_line n t at)
unfolding ins_line judge_ins decode
ins_why n t at = on_test InsWhy (has_word t at ins_word) (λ _. by (four t (at + 4))) (λ _. OfLine.misformed)
  where
    by : (x : Option (Found Four)) → InsWhy (judge_ins n x)
    by (Some x) = let v = x.value in decode_why (row_of v.a).format n (encoded v.a v.b v.c v.d) x.next
    by None = OfLine.misformed

-- `ins` lines are read to their end, or refused at a line
data LinesRead : ProgramReading → Type 0 where
  all : {r : ProgramReading} → r.verdict ≡ Ok tt → LinesRead r
  until : {why : Refusal} → OfLine why → (line : ℕ) → LinesRead (program_refused_at why line)

lines_read : (n : ℕ) (t : List ℕ) (m k : ℕ) (r : ProgramReading) → r.verdict ≡ Ok tt → LinesRead (ins_from n t m k r)
unfolding ins_from
lines_read n t zero k r h = LinesRead.all h
lines_read n t (suc m) k r h = by (ins_line n t r.at) (ins_why n t r.at) (λ x i. lines_read n t m (suc k) (with_line r k x i) refl)
  where
    by :
        (x : InsLine) → InsWhy x → ((y : Instruction) (i : ℕ) → LinesRead (ins_from n t m (suc k) (with_line r k y i))) →
        LinesRead (next_ins x r k (λ y. ins_from n t m (suc k) y))
    by (Ok x) w go = go x.value x.next
    by (Err why) w go = LinesRead.until w r.line

-- what becomes of the text of a change
data Judged (x : Contents) (t : List ℕ) : ProgramReading → Type 0 where
  too_long_lem : 16384 < length t → Judged x t (program_refused_at TooLong 0)
  at_line : {why : Refusal} → OfLine why → (line : ℕ) → Judged x t (program_refused_at why line)
  too_heavy_lem : (line : ℕ) → length t ≤ 16384 → Overweight x t line → Judged x t (program_refused_at TooHeavy line)
  accepted : {r : ProgramReading} → r.verdict ≡ Ok tt → Judged x t r

-- more than the least of two numbers
above_least : (a b n : ℕ) → min a b < n → (a < n) ⊎ (b < n)
above_least a b n h = by (dec_lt a n) (dec_lt b n)
  where
    by : Dec (a < n) → Dec (b < n) → (a < n) ⊎ (b < n)
    by (yes l) d = inl l
    by (no l) (yes k) = inr k
    by (no l) (no k) = absurd (omega (arith, le-min {k = n} {a = a} {b = b} (omega arith) (omega arith)))

module _ (x : Contents) (t : List ℕ) (short : length t ≤ 16384) where
  abbrev most : ℕ
  most = min 32 (card_weight x)

  weighed_judged :
      (m i : ℕ) → sheet_line t 0 ≡ Ok (found m i) → {r : ProgramReading} → instructions_read x t m i ≡ r → LinesRead r →
      Judged x t (weighed most (1 + m) r)
  weighed_judged m i s e (LinesRead.until w line) = Judged.at_line w line
  weighed_judged m i s {r} e (LinesRead.all h) =
      subst (λ (v : Verdict). Judged x t (judge_weight most v (1 + m) r)) (sym h)
      (on_test (Judged x t) (ltb most (weight r.program))
      (λ l. Judged.too_heavy_lem (1 + m) short (record {
        m = m;
        i = i;
        sheet = s;
        good = rw e h;
        heavy = rw e (above_least 32 (card_weight x) (weight r.program) (ltb-true most _ l));
        last = omega arith;
      }))
      (λ _. Judged.accepted h))

  read_judged : Judged x t (read_program x.variable_count most t 0 1)
  unfolding read_program
  read_judged = by (sheet_line t 0) refl (sheet_why t 0)
    where
      by : (s : SheetLine) → sheet_line t 0 ≡ s → SheetWhy s → Judged x t (program_after x.variable_count most t s 1)
      by (Ok y) e w = weighed_judged y.value y.next e refl (lines_read x.variable_count t y.value 0 (after_length y.value y.next 2) refl)
      by (Err why) e w = Judged.at_line w 1

  end_judged : {r : ProgramReading} → Judged x t r → Judged x t (program_then_end t r)
  end_judged (Judged.too_long_lem h) = Judged.too_long_lem h
  end_judged (Judged.at_line w line) = Judged.at_line w line
  end_judged (Judged.too_heavy_lem line l h) = Judged.too_heavy_lem line l h
  end_judged {r} (Judged.accepted h) =
      subst (λ (v : Verdict). Judged x t (if_program_accepted v r (cond (eqb r.at (length t)) r (program_refused_at Malformed r.line)))) (sym h)
      (on_test (Judged x t) (eqb r.at (length t)) (λ _. Judged.accepted h) (λ _. Judged.at_line OfLine.misformed r.line))

judged : (x : Contents) (t : List ℕ) → Judged x t (change_read x t)
unfolding change_read
judged x t =
    on_test (Judged x t) (ltb 16384 (length t)) (λ l. Judged.too_long_lem (ltb-true 16384 _ l))
    (λ l. end_judged x t (ltb-false 16384 _ l) (read_judged x t (ltb-false 16384 _ l)))

-- what its refusal says: of 14 that it counts too much; it is 1 to 4 or 12 to 14, and never another
module _ (x : Contents) (t : List ℕ) where
  abbrev pub Says : Refusal → ℕ → Type 0
  Says TooLong line = Unit
  Says Malformed line = Unit
  Says OutOfRange line = Unit
  Says UnknownCode line = Unit
  Says NoProcess line = ⊥
  Says NoProgram line = ⊥
  Says Busy line = ⊥
  Says NotBusy line = ⊥
  Says NoPlace line = ⊥
  Says LimitReached line = ⊥
  Says ShortBuffer line = ⊥
  Says OperandOutOfRange line = Unit
  Says UnusedOperand line = Unit
  Says TooHeavy line = (length t ≤ 16384) × Overweight x t line
  Says NotAhead line = ⊥
  Says Unsettled line = ⊥
  Says TooLarge line = ⊥
  Says BadTerms line = ⊥
  Says NoAllowance line = ⊥

  abbrev VerdictSays : Verdict → Type 0
  VerdictSays (Ok _) = Unit
  VerdictSays (Err e) = Says e.refusal e.line

  line_says : {why : Refusal} → OfLine why → (line : ℕ) → Says why line
  line_says OfLine.misformed line = tt
  line_says OfLine.range line = tt
  line_says OfLine.code line = tt
  line_says OfLine.operand line = tt
  line_says OfLine.unused line = tt

  judged_says : {r : ProgramReading} → Judged x t r → VerdictSays r.verdict
  judged_says (Judged.too_long_lem h) = tt
  judged_says (Judged.at_line w line) = line_says w line
  judged_says (Judged.too_heavy_lem line l h) = (l, h)
  judged_says (Judged.accepted h) = subst VerdictSays (sym h) tt

  pub refused_says : {why : Refusal} {line : ℕ} → (change_read x t).verdict ≡ Err (told_at why line) → Says why line
  refused_says e = subst VerdictSays e (judged_says (judged x t))

-- a text that counts too much is refused so
pub overweight_judged :
    (x : Contents) (t : List ℕ) (line : ℕ) → length t ≤ 16384 → Overweight x t line → (change_read x t).verdict ≡ Err (told_at TooHeavy line)
unfolding change_read read_program
overweight_judged x t line short W =
    let n = weight (instructions_read x t W.m W.i).program in
    let more : min 32 (card_weight x) < n =
    ⊎_elim (λ h. omega (arith, min-le_left 32 (card_weight x))) (λ h. omega (arith, min-le_right 32 (card_weight x))) W.heavy in
    rw (le-ltb 16384 (length t) short, W.sheet, W.good, lt-ltb (min 32 (card_weight x)) n more) (ap (λ (l : ℕ). Err (told_at TooHeavy l)) (omega (arith, W.last)))
