-- How a dump is judged (document 02, order 7): 'the reader refuses with 2 and its line the first line that breaks these forms or their order'. A missing line
-- breaks them too, and is numbered one past the last, as in a card text.
use Rattle.std.specs.Prelude.{ℕ, suc, ◌+◌, ◌≤◌, ◌<◌, ◌≡◌, true, false, ◌≢◌, List, [], length, Ok}
use Rattle.grammar.specs.Reading.{has_word}
use Rattle.construction.specs.Answers.{Fields, fields}
use Rattle.construction.specs.TextJudging.{refused_in}
use Rattle.dump.specs.declared.{DumpLine.DumpLine, Progress.Progress}
use Rattle.dump.specs.Dump.{timescale_line, scope_line, var_line, upscope_line, definitions_line, time_text}
use Rattle.dump.specs.Reading.{line_at, no_values, with_value, with_time, takes_time, takes_value}

-- The line that comes next, with the place where it begins: a line of the header, after n variables; a value at time 0, `left` of them; a time or a value
-- after that. What was read before stands beside it.
pub data NextLine : Type 0 where
  timescale : NextLine
  scope : (at : ℕ) → NextLine
  var : (n at : ℕ) → NextLine
  definitions : (n at : ℕ) → NextLine
  zero : (n at : ℕ) → NextLine
  start : (n left : ℕ) (s : Progress) → NextLine
  line : (n : ℕ) (s : Progress) → NextLine

-- what is read after `#0`, for the step that is asked for
abbrev pub start_at : ℕ → ℕ → Progress
start_at n at =
    record { verdict = Ok tt; at = at; line = n + 6; time = 0; next = 0; values = no_values; shown = no_values }

-- every line before it is good
pub data GoodUntil (step : ℕ) (t : List ℕ) : NextLine → Type 0 where
  first : GoodUntil step t NextLine.timescale
  scope : has_word t 0 timescale_line ≡ true → GoodUntil step t (NextLine.scope (length timescale_line))
  first_var : {at : ℕ} → GoodUntil step t (NextLine.scope at) → has_word t at scope_line ≡ true → GoodUntil step t (NextLine.var 0 (at + length scope_line))
  -- '(0 to 64 of them) with its code and name'
  next_var :
      {n at : ℕ} → GoodUntil step t (NextLine.var n at) → n < 64 → has_word t at (var_line n) ≡ true → GoodUntil step t (NextLine.var (n + 1) (at + length (var_line n)))
  definitions : {n at : ℕ} → GoodUntil step t (NextLine.var n at) → has_word t at upscope_line ≡ true → GoodUntil step t (NextLine.definitions n (at + length upscope_line))
  zero : {n at : ℕ} → GoodUntil step t (NextLine.definitions n at) → has_word t at definitions_line ≡ true → GoodUntil step t (NextLine.zero n (at + length definitions_line))
  first_start : {n at : ℕ} → GoodUntil step t (NextLine.zero n at) → has_word t at (time_text 0) ≡ true → GoodUntil step t (NextLine.start n n (start_at n (at + length (time_text 0))))
  -- 'all looked values at time 0'
  next_start :
      {n m x i : ℕ} {s : Progress} → GoodUntil step t (NextLine.start n (suc m) s) → line_at t s.at ≡ DumpLine.Value s.next x i →
      GoodUntil step t (NextLine.start n m (with_value step s s.next x i))
  first_line : {n : ℕ} {s : Progress} → GoodUntil step t (NextLine.start n 0 s) → GoodUntil step t (NextLine.line n s)
  next_time :
      {n k i : ℕ} {s : Progress} → GoodUntil step t (NextLine.line n s) → s.at < length t → line_at t s.at ≡ DumpLine.Time k i → takes_time s k ≡ true →
      GoodUntil step t (NextLine.line n (with_time s k i))
  next_value :
      {n v x i : ℕ} {s : Progress} → GoodUntil step t (NextLine.line n s) → s.at < length t → line_at t s.at ≡ DumpLine.Value v x i → takes_value n s v x ≡ true →
      GoodUntil step t (NextLine.line n (with_value step s v x i))

-- a value at time 0 that is not the next variable's, or is none; and a line after that which may not follow
pub data StartBreaks (s : Progress) : DumpLine → Type 0 where
  time : {k i : ℕ} → StartBreaks s (DumpLine.Time k i)
  other : {v x i : ℕ} → v ≢ s.next → StartBreaks s (DumpLine.Value v x i)
  neither : StartBreaks s DumpLine.Malformed

pub data LineBreaks (n : ℕ) (s : Progress) : DumpLine → Type 0 where
  time : {k i : ℕ} → takes_time s k ≡ false → LineBreaks n s (DumpLine.Time k i)
  value : {v x i : ℕ} → takes_value n s v x ≡ false → LineBreaks n s (DumpLine.Value v x i)
  neither : LineBreaks n s DumpLine.Malformed

-- what the verdict on a text says: the line of the first one that breaks the forms, or that the text is a dump
pub data Judged (step : ℕ) (t : List ℕ) : Fields → Type 0 where
  timescale : has_word t 0 timescale_line ≡ false → Judged step t (refused_in 1 2)
  scope : {at : ℕ} → GoodUntil step t (NextLine.scope at) → has_word t at scope_line ≡ false → Judged step t (refused_in 2 2)
  -- neither another variable, of which there are at most 64, nor the end of the scope
  var :
      {n at : ℕ} → GoodUntil step t (NextLine.var n at) → (n < 64 → has_word t at (var_line n) ≡ false) → has_word t at upscope_line ≡ false →
      Judged step t (refused_in (n + 3) 2)
  definitions : {n at : ℕ} → GoodUntil step t (NextLine.definitions n at) → has_word t at definitions_line ≡ false → Judged step t (refused_in (n + 4) 2)
  zero : {n at : ℕ} → GoodUntil step t (NextLine.zero n at) → has_word t at (time_text 0) ≡ false → Judged step t (refused_in (n + 5) 2)
  start : {n m : ℕ} {s : Progress} → GoodUntil step t (NextLine.start n (suc m) s) → StartBreaks s (line_at t s.at) → Judged step t (refused_in s.line 2)
  line :
      {n : ℕ} {s : Progress} → GoodUntil step t (NextLine.line n s) → s.at < length t → LineBreaks n s (line_at t s.at) →
      Judged step t (refused_in s.line 2)
  accepted : {n : ℕ} {s : Progress} → GoodUntil step t (NextLine.line n s) → length t ≤ s.at → Judged step t (fields "accepted" [])
