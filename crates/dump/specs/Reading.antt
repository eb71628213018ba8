-- The reader of a dump (document 02, order 7): from the bytes to the number of variables, the last time and the values after a step, or refusal 2 with
-- the line of the first line that breaks the forms or their order. It goes through the text once.
use Rattle.std.specs.Prelude.{ℕ, zero, suc, ◌+◌, ◌-◌, Bool, cond, not, ◌&&◌, List, length, get_or, set, replicate, eqb, leb, ltb, Ok, Err, Option, Some, None}
use Rattle.grammar.specs.declared.Found.{Found}
use Rattle.grammar.specs.Reading.{has_byte, has_word, field}
use Rattle.construction.specs.declared.answers.Refusal.TheVariants.{Malformed}
use Rattle.construction.specs.Types.{Verdict, told_at}
use Rattle.dump.specs.declared.{DumpLine.DumpLine, Header.Header, Progress.Progress, Readings.Readings}
use Rattle.dump.specs.Binary.{over, bits_at}
use Rattle.dump.specs.Dump.{timescale_line, scope_line, var_line, upscope_line, definitions_line, time_text}

-- ---- lines after the header
-- `#` and a decimal, as in a card text
abbrev pub time_of : Option (Found ℕ) → DumpLine
time_of (Some x) = DumpLine.Time x.value x.next
time_of None = DumpLine.Malformed

-- `b`, a binary number of at most 32 bits, a space, a code and the line's end: i is the place past the number
abbrev pub has_code : List ℕ → ℕ → Bool
has_code t i = has_byte t i 32 && (leb 33 (get_or t (i + 1) 0) && has_byte t (i + 2) 10)

abbrev pub value_of : List ℕ → Option (Found ℕ) → DumpLine
value_of t (Some x) =
    cond (ltb x.value over && has_code t x.next) (DumpLine.Value (get_or t (x.next + 1) 0 - 33) x.value (x.next + 3)) DumpLine.Malformed
value_of t None = DumpLine.Malformed

unfoldable pub line_at : List ℕ → ℕ → DumpLine
line_at t at =
    cond (has_byte t at 35) (time_of (field t 10 (at + 1)))
    (cond (has_byte t at 98) (value_of t (bits_at t (at + 1))) DumpLine.Malformed)

-- ---- the header: each of its lines is one that the writer writes there
abbrev pub header_start : Header
header_start = record { verdict = Ok tt; count = 0; at = 0; line = 1 }

abbrev pub header_refused : ℕ → Header
header_refused line = record { verdict = Err (told_at Malformed line); count = 0; at = 0; line = line }

abbrev pub on_header : Verdict → Header → Header → Header
on_header (Ok _) h next = next
on_header (Err e) h next = h

abbrev pub past_word : Header → List ℕ → Header
past_word h w = record { verdict = Ok tt; count = h.count; at = h.at + length w; line = h.line + 1 }

-- a line that is these bytes
unfoldable pub then_word : List ℕ → List ℕ → Header → Header
then_word t w h = on_header h.verdict h (cond (has_word t h.at w) (past_word h w) (header_refused h.line))

-- the variables, 0 to 64 of them: `left` more are allowed
abbrev pub with_var : Header → Header
with_var h =
    record { verdict = Ok tt; count = h.count + 1; at = h.at + length (var_line h.count); line = h.line + 1 }

unfoldable pub vars_from : List ℕ → ℕ → Header → Header
vars_from t zero h = h
vars_from t (suc left) h = cond (has_word t h.at (var_line h.count)) (vars_from t left (with_var h)) h

unfoldable pub then_vars : List ℕ → Header → Header
then_vars t h = on_header h.verdict h (vars_from t 64 h)

-- the header and `#0`
unfoldable pub read_header : List ℕ → Header
read_header t =
    then_word t (time_text 0)
    (then_word t definitions_line (then_word t upscope_line (then_vars t (then_word t scope_line (then_word t timescale_line header_start)))))

-- ---- times and values
abbrev pub no_values : List ℕ
no_values = replicate 64 0

abbrev pub progress_refused : ℕ → Progress
progress_refused line =
    record { verdict = Err (told_at Malformed line); at = 0; line = line; time = 0; next = 0; values = no_values; shown = no_values }

-- after `#0`, or refused with the header
abbrev pub begun : Header → Progress
begun h = record { verdict = h.verdict; at = h.at; line = h.line; time = 0; next = 0; values = no_values; shown = no_values }

-- a value is taken; it is one of those after the step asked for if its time is not above that step
abbrev pub shown_at : ℕ → ℕ → List ℕ → ℕ → ℕ → List ℕ
shown_at step time shown v x = cond (leb time step) (set shown v x) shown

abbrev pub with_value : ℕ → Progress → ℕ → ℕ → ℕ → Progress
with_value step s v x i =
    record {
      verdict = Ok tt;
      at = i;
      line = s.line + 1;
      time = s.time;
      next = v + 1;
      values = set s.values v x;
      shown = shown_at step s.time s.shown v x;
    }

-- a time is taken
abbrev pub with_time : Progress → ℕ → ℕ → Progress
with_time s k i =
    record {
      verdict = Ok tt;
      at = i;
      line = s.line + 1;
      time = k;
      next = 0;
      values = s.values;
      shown = s.shown;
    }

-- 'all looked values at time 0': the value of the next variable, m of them
abbrev pub next_start : ℕ → Progress → DumpLine → (Progress → Progress) → Progress
next_start step s (DumpLine.Value v x i) go = cond (eqb v s.next) (go (with_value step s v x i)) (progress_refused s.line)
next_start step s (DumpLine.Time k i) go = progress_refused s.line
next_start step s DumpLine.Malformed go = progress_refused s.line

unfoldable pub starts_from : ℕ → List ℕ → ℕ → Progress → Progress
starts_from step t zero s = s
starts_from step t (suc m) s = next_start step s (line_at t s.at) (λ r. starts_from step t m r)

-- a time comes after the values of another, above it, and at most 1,000,000,000,000,000,000
abbrev pub takes_time : Progress → ℕ → Bool
takes_time s k = not (eqb s.next 0) && (ltb s.time k && leb k 1000000000000000000)

-- a value comes in variable order, once within a time, and is another than the variable had
abbrev pub takes_value : ℕ → Progress → ℕ → ℕ → Bool
takes_value n s v x = leb s.next v && (ltb v n && not (eqb x (get_or s.values v 0)))

abbrev pub next_line : ℕ → ℕ → Progress → DumpLine → (Progress → Progress) → Progress
next_line step n s (DumpLine.Time k i) go = cond (takes_time s k) (go (with_time s k i)) (progress_refused s.line)
next_line step n s (DumpLine.Value v x i) go = cond (takes_value n s v x) (go (with_value step s v x i)) (progress_refused s.line)
next_line step n s DumpLine.Malformed go = progress_refused s.line

-- the lines that are left; each has a byte at least, so the bytes that are left bound how many there are
unfoldable pub lines_from : ℕ → List ℕ → ℕ → ℕ → Progress → Progress
lines_from step t n zero s = s
lines_from step t n (suc fuel) s =
    cond (ltb s.at (length t)) (next_line step n s (line_at t s.at) (λ r. lines_from step t n fuel r)) s

-- ---- the whole
abbrev pub on_progress : Verdict → Progress → Progress → Progress
on_progress (Ok _) s next = next
on_progress (Err e) s next = s

abbrev pub then_starts : ℕ → List ℕ → ℕ → Progress → Progress
then_starts step t n s = on_progress s.verdict s (starts_from step t n s)

abbrev pub then_lines : ℕ → List ℕ → ℕ → Progress → Progress
then_lines step t n s = on_progress s.verdict s (lines_from step t n (length t) s)

unfoldable pub progress : ℕ → List ℕ → Progress
progress step t = let h = read_header t in then_lines step t h.count (then_starts step t h.count (begun h))

-- 'values past n, and all on refusal, are 0', and so are n and the last time on refusal
abbrev pub readings_of : Verdict → ℕ → Progress → Readings
readings_of (Ok _) n s = record { verdict = Ok tt; count = n; last = s.time; values = s.shown }
readings_of (Err e) n s =
    record { verdict = Err e; count = 0; last = 0; values = no_values }

-- what the reader gives of a dump for a step: 'a step past the last gets the last values'
unfoldable pub readings : List ℕ → ℕ → Readings
readings t step = let s = progress step t in readings_of s.verdict (read_header t).count s
