-- The table of the longest wait (document 02, order 3): 'for p from 1 to 8 and w from 0 to 32', and its text: 'a line for each p, w rising, parted by
-- commas'
use Rattle.std.specs.Prelude.{ℕ, zero, suc, Bool, cond, ◌&&◌, List, [], ◌∷◌, ◌++◌, ltb, Option, Some, None}
use Rattle.grammar.specs.Writing.{field_text}
use Rattle.construction.specs.Answers.{Fields, fields}
use Rattle.construction.specs.Waits.{longest_wait}

-- the table has a number for p and w
abbrev pub in_table : ℕ → ℕ → Bool
in_table p w = ltb 0 p && (ltb p 9 && ltb w 33)

-- the longest wait, in own steps of the operation and without an exit request, or that the table has none
unfoldable pub wait_for : ℕ → ℕ → Option ℕ
wait_for p w = cond (in_table p w) (Some (longest_wait p w)) None

-- the number of an answer, and none outside the table
unfoldable pub wait_fields : Option ℕ → Fields
wait_fields (Some n) = fields "" (n ∷ [])
wait_fields None = fields "" []

-- what stands after the number of the weight w: a comma, or byte 10 after the last
abbrev pub separator : ℕ → ℕ
separator w = cond (ltb w 32) 44 10

-- m numbers of the line of p from w on; a whole line has 33
unfoldable pub row_text : ℕ → ℕ → ℕ → List ℕ
row_text p zero w = []
row_text p (suc m) w = field_text (separator w) (longest_wait p w) ++ row_text p m (suc w)

-- m lines, the first for p = k + 1; the whole table has 8
unfoldable pub rows_text : ℕ → ℕ → List ℕ
rows_text zero k = []
rows_text (suc m) k = row_text (suc k) 33 0 ++ rows_text m (suc k)

abbrev pub table_text : List ℕ
table_text = rows_text 8 0
