-- The cases of the input: a decimal length, byte 10, and so many bytes of text
use Rattle.std.specs.Prelude.{ℕ, ◌+◌, ◌-◌, cond, List, length, ltb, Option, Some, None}
use Rattle.grammar.specs.declared.Found.{Found}
use Rattle.grammar.specs.Reading.{field}
use Rattle.text_cases.specs.declared.Case.{Case}

-- where the text stands, given its length and the place past byte 10; none where the input is shorter
abbrev pub case_of : List ℕ → Option (Found ℕ) → Option Case
case_of t (Some x) = cond (ltb (length t - x.next) x.value) None (Some (record { start = x.next; end = x.next + x.value }))
case_of t None = None

unfoldable pub case_at : List ℕ → ℕ → Option Case
case_at t at = case_of t (field t 10 at)
