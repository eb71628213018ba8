-- The requests of a calls text (document 02, order 14; docs/FORMATS.md): 'the commands of the bench program with the machine after the verb, and `turn`, which
-- is the whole line'.
use Rattle.std.specs.Prelude.{ℕ, ◌+◌, cond, List, [], ◌∷◌, Option, Some, None}
use Rattle.grammar.specs.Reading.{has_word}
use Rattle.grammar.specs.Items.{items}
use Rattle.grammar.specs.declared.Found.{Found}
use Rattle.commands.specs.declared.{Verb.Verb, Parsed.Parsed}
use Rattle.commands.specs.Commands.{Inside, malformed, word, verb_at, fields_at}
use Rattle.machine_commands.specs.declared.{Request.Request, Line.Line}

-- `turn` and byte 10
abbrev pub turn_line : List ℕ
turn_line = 116 ∷ 117 ∷ 114 ∷ 110 ∷ 10 ∷ []

abbrev pub turned : ℕ → Line
turned next = record { request = Request.Turn; lines = 1; next = next }

-- a command to machine m
abbrev pub directed : ℕ → Parsed → Line
directed m p = record { request = Request.To m p.command; lines = p.lines; next = p.next }

-- the fields of a verb's command after the number of its machine
abbrev pub after_machine : List ℕ → Verb → ℕ → Option (Found ℕ) → Line
after_machine t verb at (Some m) = directed m.value (fields_at t verb at m.next)
after_machine t verb at None = directed 0 (malformed t at)

-- the request at a place, and the place past its lines
unfoldable pub request : List ℕ → ℕ → Line
request t at =
    cond (has_word t at turn_line) (turned (at + 5))
    (after_machine t (verb_at t at).value at (word t 44 (verb_at t at).next))

-- the text of a change lies in the calls text
abbrev pub InsideOf : List ℕ → Request → Type 0
InsideOf t (Request.To m c) = Inside t c
InsideOf t Request.Turn = Unit

-- the requests from a place on, one after the other
unfoldable pub requests : List ℕ → ℕ → List Line
requests t at = items request (λ (m : Line). m.next) t at
