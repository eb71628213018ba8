-- How a text is judged (document 01, 'Turned back'): 'by 1, then line by line', so that the first line that is refused refuses the text.
use Rattle.std.specs.Prelude.{ℕ, suc, ◌+◌, ◌≤◌, ◌<◌, ◌≡◌, ◌≢◌, List, [], ◌∷◌, length, replicate, Ok}
use Rattle.grammar.specs.Reading.{found}
use Rattle.construction.specs.Types.{Instruction}
use Rattle.construction.specs.Instructions.{no_line}
use Rattle.construction.specs.Weight.{weight}
use Rattle.construction.specs.Answers.{Fields, fields, refused_with, card_line_fields, var_line_fields, sheet_line_fields, ins_line_fields}
use Rattle.construction.specs.Lines.{card_numbers, card_line, var_line, sheet_line, ins_line}
use Rattle.construction.specs.Opening.{begun, so_far, program_so_far, with_start, with_line, with_program}
use Rattle.construction.specs.Readings.{ProgramReading, Reading}

-- The line that comes next: the `card` line; a `var` line, `left` of them, this one for variable k; a `sheet` line, `left` of them, this one for
-- program k; an `ins` line, `more` of program k and then `left` programs, this one for place j. What was read before stands beside it, with the
-- place of the line and its number.
pub data NextLine : Type 0 where
  card : NextLine
  var : (left k : ℕ) (r : Reading) → NextLine
  sheet : (left k : ℕ) (r : Reading) → NextLine
  ins : (left k : ℕ) (r : Reading) (more j : ℕ) (x : ProgramReading) → NextLine

-- every line before it is good
pub data GoodUntil (t : List ℕ) : NextLine → Type 0 where
  card : length t ≤ 16384 → GoodUntil t NextLine.card
  -- 'In order: `card,p,n,s,limit`; n lines `var,value` ..'
  first_var :
      {p n s limit next : ℕ} → GoodUntil t NextLine.card → card_line t 0 ≡ Ok (found (card_numbers p n s limit) next) →
      GoodUntil t (NextLine.var n 0 (so_far (begun p n s limit) next 2))
  next_var :
      {m k v next : ℕ} {r : Reading} → GoodUntil t (NextLine.var (suc m) k r) → var_line t r.at ≡ Ok (found v next) →
      GoodUntil t (NextLine.var m (suc k) (with_start r k v next))
  -- '.. for each sheet `sheet,length` and its lines `ins,code,a,b,c`'
  first_sheet : {k : ℕ} {r : Reading} → GoodUntil t (NextLine.var 0 k r) → GoodUntil t (NextLine.sheet r.contents.program_count 0 r)
  first_ins :
      {s k m next : ℕ} {r : Reading} → GoodUntil t (NextLine.sheet (suc s) k r) → sheet_line t r.at ≡ Ok (found m next) →
      GoodUntil t (NextLine.ins s k r m 0 (program_so_far m (replicate 32 no_line) next (suc r.line)))
  next_ins :
      {s k m j next : ℕ} {r : Reading} {x : ProgramReading} {y : Instruction} → GoodUntil t (NextLine.ins s k r (suc m) j x) →
      ins_line r.contents.variable_count t x.at ≡ Ok (found y next) → GoodUntil t (NextLine.ins s k r m (suc j) (with_line x j y next))
  -- a sheet that does not count too much
  next_sheet :
      {s k j : ℕ} {r : Reading} {x : ProgramReading} → GoodUntil t (NextLine.ins s k r 0 j x) → weight x.program ≤ 32 →
      GoodUntil t (NextLine.sheet s (suc k) (with_program r k x))

-- 'A refused text gives its line, counted from 1 (0 for refusal 1)'
abbrev pub refused_in : ℕ → ℕ → Fields
refused_in line number = fields "refused" (number ∷ line ∷ [])

-- what the verdict on a text says: the number and the line of the first refusal, or that the text is accepted
pub data Judged (t : List ℕ) : Fields → Type 0 where
  too_long : 16384 < length t → Judged t (refused_in 0 1)
  card : {number : ℕ} → GoodUntil t NextLine.card → card_line_fields (card_line t 0) ≡ refused_with number → Judged t (refused_in 1 number)
  var :
      {m k number : ℕ} {r : Reading} → GoodUntil t (NextLine.var (suc m) k r) → var_line_fields (var_line t r.at) ≡ refused_with number →
      Judged t (refused_in r.line number)
  sheet :
      {s k number : ℕ} {r : Reading} → GoodUntil t (NextLine.sheet (suc s) k r) → sheet_line_fields (sheet_line t r.at) ≡ refused_with number →
      Judged t (refused_in r.line number)
  ins :
      {s k m j number : ℕ} {r : Reading} {x : ProgramReading} → GoodUntil t (NextLine.ins s k r (suc m) j x) →
      ins_line_fields (ins_line r.contents.variable_count t x.at) ≡ refused_with number → Judged t (refused_in x.line number)
  -- 'A sheet with more than 32 by that count is refused with 14, at its last line' (document 02, order 9): as many lines after the `sheet` line as it has
  too_heavy :
      {s k j : ℕ} {r : Reading} {x : ProgramReading} → GoodUntil t (NextLine.ins s k r 0 j x) → 32 < weight x.program →
      Judged t (refused_in (r.line + x.program.length) 14)
  -- 'Nothing follows'
  left_over : {k : ℕ} {r : Reading} → GoodUntil t (NextLine.sheet 0 k r) → r.at ≢ length t → Judged t (refused_in r.line 2)
  accepted : {k : ℕ} {r : Reading} → GoodUntil t (NextLine.sheet 0 k r) → r.at ≡ length t → Judged t (fields "accepted" [])

-- THE TEXT OF A CHANGE (document 02, order 11: 'the text is judged as in a card'): one program and nothing after it, by the number n of variables and the
-- greatest weight. All its lines before an `ins` line are good, `more` of them to come, this one for place j; what was read before stands beside it.
pub data GoodLines (n : ℕ) (t : List ℕ) : ℕ → ℕ → ProgramReading → Type 0 where
  first :
      {m next : ℕ} → length t ≤ 16384 → sheet_line t 0 ≡ Ok (found m next) →
      GoodLines n t m 0 (program_so_far m (replicate 32 no_line) next 2)
  next :
      {m j next : ℕ} {x : ProgramReading} {y : Instruction} → GoodLines n t (suc m) j x → ins_line n t x.at ≡ Ok (found y next) →
      GoodLines n t m (suc j) (with_line x j y next)

-- what the verdict on it says
pub data ChangeJudged (n most : ℕ) (t : List ℕ) : Fields → Type 0 where
  too_long : 16384 < length t → ChangeJudged n most t (refused_in 0 1)
  sheet :
      {number : ℕ} → length t ≤ 16384 → sheet_line_fields (sheet_line t 0) ≡ refused_with number → ChangeJudged n most t (refused_in 1 number)
  ins :
      {m j number : ℕ} {x : ProgramReading} → GoodLines n t (suc m) j x → ins_line_fields (ins_line n t x.at) ≡ refused_with number →
      ChangeJudged n most t (refused_in x.line number)
  -- 14 at the last `ins` line, before a line left over is looked at
  too_heavy :
      {j : ℕ} {x : ProgramReading} → GoodLines n t 0 j x → most < weight x.program →
      ChangeJudged n most t (refused_in (1 + x.program.length) 14)
  left_over :
      {j : ℕ} {x : ProgramReading} → GoodLines n t 0 j x → weight x.program ≤ most → x.at ≢ length t →
      ChangeJudged n most t (refused_in x.line 2)
  accepted :
      {j : ℕ} {x : ProgramReading} → GoodLines n t 0 j x → weight x.program ≤ most → x.at ≡ length t →
      ChangeJudged n most t (fields "accepted" [])
