-- The value change dump of a history (document 02, order 7), line by line and byte by byte. A history is the number n of variables, the row of their
-- values at time 0 and the rows after 1, 2, .. accepted steps.
use Rattle.std.specs.Prelude.{ℕ, zero, suc, ◌+◌, cond, List, [], ◌∷◌, ◌++◌, length, get_or, drop, eqb, leb, ltb, Ok, Err}
use Prim.Native.String.{String}
use Rattle.grammar.specs.Writing.{decimal, field_text}
use Rattle.construction.specs.declared.answers.Refusal.TheVariants.{ShortBuffer}
use Rattle.construction.specs.Answers.{bytes}
use Rattle.construction.specs.Types.{Written}
use Rattle.dump.specs.Binary.{binary}

-- a line of these characters
abbrev pub line_of : String → List ℕ
line_of text = bytes text ++ (10 ∷ [])

-- 'The header is, line by line, ..'
abbrev pub timescale_line : List ℕ
timescale_line = line_of "$timescale 1 us $end"

abbrev pub scope_line : List ℕ
scope_line = line_of "$scope module card $end"

-- 'each variable v a 32-bit wire `v` and its number, its code the character 33 + v'
abbrev pub code_of : ℕ → ℕ
code_of v = 33 + v

unfoldable pub var_line : ℕ → List ℕ
var_line v = bytes "$var wire 32 " ++ (code_of v ∷ (bytes " v" ++ (decimal v ++ line_of " $end")))

abbrev pub upscope_line : List ℕ
upscope_line = line_of "$upscope $end"

abbrev pub definitions_line : List ℕ
definitions_line = line_of "$enddefinitions $end"

-- m variables from v on
unfoldable pub vars_text : ℕ → ℕ → List ℕ
vars_text zero v = []
vars_text (suc m) v = var_line v ++ vars_text m (suc v)

unfoldable pub header_text : ℕ → List ℕ
header_text n = timescale_line ++ (scope_line ++ (vars_text n 0 ++ (upscope_line ++ definitions_line)))

-- 'A time is a line `#` and the count'
unfoldable pub time_text : ℕ → List ℕ
time_text k = 35 ∷ field_text 10 k

-- 'a value is a line `b`, binary .., a space and the code'
unfoldable pub value_text : ℕ → ℕ → List ℕ
value_text v x = 98 ∷ (binary x ++ (32 ∷ code_of v ∷ 10 ∷ []))

-- 'all looked values at time 0': m values from variable v on
unfoldable pub values_text : ℕ → ℕ → List ℕ → List ℕ
values_text zero v row = []
values_text (suc m) v row = value_text v (get_or row v 0) ++ values_text m (suc v) row

-- a variable that changes, when, and what it becomes
pub record Change : Type 0 where
  pub time : ℕ
  pub variable : ℕ
  pub value : ℕ

abbrev pub change : ℕ → ℕ → ℕ → Change
change k v x = record { time = k; variable = v; value = x }

-- 'at the count of accepted steps those that changed, in variable order': of m variables from v on those that differ between two rows, at time k
unfoldable pub changes_at : ℕ → ℕ → ℕ → List ℕ → List ℕ → List Change
changes_at k zero v before after = []
changes_at k (suc m) v before after =
    let more = changes_at k m (suc v) before after in
    cond (eqb (get_or before v 0) (get_or after v 0)) more (change k v (get_or after v 0) ∷ more)

-- all changes of the rows that follow the row of time k
unfoldable pub changes_from : ℕ → ℕ → List ℕ → List (List ℕ) → List Change
changes_from n k row [] = []
changes_from n k row (r ∷ rs) = changes_at (suc k) n 0 row r ++ changes_from n (suc k) r rs

-- a time is told where it is above the last one told
abbrev pub time_above : ℕ → ℕ → List ℕ
time_above told k = cond (ltb told k) (time_text k) []

-- the lines of changes, after the time `told`; and the time that is told then
unfoldable pub changes_text : ℕ → List Change → List ℕ
changes_text told [] = []
changes_text told (c ∷ cs) = time_above told c.time ++ (value_text c.variable c.value ++ changes_text c.time cs)

unfoldable pub told_after : ℕ → List Change → ℕ
told_after told [] = told
told_after told (c ∷ cs) = told_after c.time cs

-- 'The dump ends with the time of the last accepted step, even if nothing changed then'
abbrev pub lines_text : ℕ → ℕ → List Change → List ℕ
lines_text told last cs = changes_text told cs ++ time_above (told_after told cs) last

-- the header, `#0` and the values of that time
unfoldable pub opening_text : ℕ → List ℕ → List ℕ
opening_text n row = header_text n ++ (time_text 0 ++ values_text n 0 row)

unfoldable pub dump : ℕ → List ℕ → List (List ℕ) → List ℕ
dump n row rows = opening_text n row ++ lines_text 0 (length rows) (changes_from n 0 row rows)

-- 'A lent buffer too small is refused with 11 and keeps its bytes': the answer, and the buffer: the dump, then the bytes past it as they were
unfoldable pub written : List ℕ → List ℕ → Written
written text b = cond (leb (length text) (length b)) (Ok (length text)) (Err ShortBuffer)

unfoldable pub written_into : List ℕ → List ℕ → List ℕ
written_into text b = cond (leb (length text) (length b)) (text ++ drop (length text) b) b
