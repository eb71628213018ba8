-- A dump in decimal, as the program `readings` prints it (docs/FORMATS.md): a line for each time, the step and the value of every variable after it.
use Rattle.std.specs.Prelude.{ℕ, zero, suc, ◌≤◌, min, Bool, true, false, cond, List, [], ◌∷◌, ◌++◌, ◌≡◌, length, get_or, set, take, ltb}
use Rattle.grammar.specs.Writing.{decimal}
use Rattle.dump.specs.declared.DumpLine.{DumpLine}
use Rattle.grammar.specs.Pieces.{fitting, piece_into}
use Rattle.dump.specs.Reading.{line_at, read_header, no_values}
use Rattle.dump_reader.specs.declared.{Scan.Scan, Shown.Shown}
use Rattle.dump_reader.specs.Taking.{past_line, time_with}

-- a time or a value
abbrev pub is_line : DumpLine → Bool
is_line (DumpLine.Time k i) = true
is_line (DumpLine.Value v x i) = true
is_line DumpLine.Malformed = false

-- the lines from a place on, up to the first that is neither; each has a byte at least, so the bytes bound how many there are
unfoldable pub lines_in : ℕ → List ℕ → ℕ → List DumpLine
lines_in zero t at = []
lines_in (suc f) t at = cond (is_line (line_at t at)) (line_at t at ∷ lines_in f t (past_line (line_at t at))) []

unfoldable pub lines_at : List ℕ → ℕ → List DumpLine
lines_at t at = lines_in (suc (length t)) t at

-- the values of m variables from v on, each after a comma; and the line of a step. There is room for 64 variables.
unfoldable pub numbers_text : ℕ → ℕ → List ℕ → List ℕ
numbers_text zero v row = []
numbers_text (suc m) v row = (44 ∷ decimal (get_or row v 0)) ++ numbers_text m (suc v) row

unfoldable pub row_text : ℕ → ℕ → List ℕ → List ℕ
row_text n step row = decimal step ++ (numbers_text (min 64 n) 0 row ++ (10 ∷ []))

-- after `#0`: the place of the next line, the time and the values so far
abbrev pub first_scan : List ℕ → Scan
first_scan t = record { at = (read_header t).at; time = 0; values = no_values }

-- what a line ends: at a time the values of the time before are complete
abbrev pub ended_text : ℕ → ℕ → List ℕ → DumpLine → List ℕ
ended_text n time values (DumpLine.Time k i) = row_text n time values
ended_text n time values (DumpLine.Value v x i) = []
ended_text n time values DumpLine.Malformed = []

abbrev pub ended : ℕ → Scan → DumpLine → List ℕ
ended n s line = ended_text n s.time s.values line

-- a value becomes that of its variable, if there is room for it
abbrev pub kept_with : List ℕ → DumpLine → List ℕ
kept_with values (DumpLine.Time k i) = values
kept_with values (DumpLine.Value v x i) = cond (ltb v 64) (set values v x) values
kept_with values DumpLine.Malformed = values

abbrev pub scan_after : Scan → DumpLine → Scan
scan_after s line = record { at = past_line line; time = time_with s.time line; values = kept_with s.values line }

-- all rows from a scan on: those that lines end, and the last
unfoldable pub rows_of : ℕ → Scan → List DumpLine → List ℕ
rows_of n s [] = row_text n s.time s.values
rows_of n s (l ∷ ls) = ended n s l ++ rows_of n (scan_after s l) ls

abbrev pub rows_text : List ℕ → ℕ → Scan → List ℕ
rows_text t n s = rows_of n s (lines_at t s.at)

-- the lines that are left; what is put into a buffer: the rows that they end, as many whole ones as fit
abbrev pub lines_left : List ℕ → Scan → List DumpLine
lines_left t s = lines_at t s.at

unfoldable pub shown_of : List ℕ → ℕ → Scan → List ℕ → Shown
shown_of t n s b =
    let g = fitting (ended n) scan_after s (lines_left t s) (length b) in
    record { scan = g.state; length = length g.text }

-- Rows put into a buffer: the answer, the buffer, and that nothing of the rows is lost.
pub record PutsRows (t : List ℕ) (n : ℕ) (s : Scan) (b : List ℕ) (r : Shown) (z : List ℕ) : Type 0 where
  pub answer : r ≡ shown_of t n s b
  pub bytes : z ≡ piece_into (ended n) scan_after (lines_left t) s b
  pub text : rows_text t n s ≡ take r.length z ++ rows_text t n r.scan
  pub within : r.length ≤ length z
