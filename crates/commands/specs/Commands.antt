-- The commands of a calls text (document 01, 'The bench program'): `call,process,sheet,i0,i1,i2,i3`, `wish,process`, `step,process`,
-- `look,variable`, 'with fields and line ends as in the card text'; `trace,process` (document 02, order 1); `change,sheet,number,lines` and the
-- lines of its text (order 11).
use Rattle.std.specs.Prelude.{ℕ, zero, suc, ◌+◌, ◌-◌, ◌≤◌, cond, List, [], ◌∷◌, length, take, drop, eqb, ltb, Option, Some, None, unwrap_or}
use Rattle.std.specs.Option.{option_map}
use Rattle.grammar.specs.declared.Found.{Found}
use Rattle.grammar.specs.Reading.{found, with_found, field, has_word}
use Rattle.grammar.specs.Items.{items}
use Rattle.commands.specs.declared.{Verb.Verb, Command.Command, Parsed.Parsed}

-- `call,` `wish,` `step,` `look,`
abbrev pub call_word : List ℕ
call_word = 99 ∷ 97 ∷ 108 ∷ 108 ∷ 44 ∷ []

abbrev pub wish_word : List ℕ
wish_word = 119 ∷ 105 ∷ 115 ∷ 104 ∷ 44 ∷ []

abbrev pub step_word : List ℕ
step_word = 115 ∷ 116 ∷ 101 ∷ 112 ∷ 44 ∷ []

abbrev pub look_word : List ℕ
look_word = 108 ∷ 111 ∷ 111 ∷ 107 ∷ 44 ∷ []

-- `trace,`
abbrev pub trace_word : List ℕ
trace_word = 116 ∷ 114 ∷ 97 ∷ 99 ∷ 101 ∷ 44 ∷ []

-- `change,`
abbrev pub change_word : List ℕ
change_word = 99 ∷ 104 ∷ 97 ∷ 110 ∷ 103 ∷ 101 ∷ 44 ∷ []

-- 'and the next line follows': the place past the next byte 10, or the end of the text
unfoldable pub line_end : ℕ → List ℕ → ℕ
line_end at [] = at
line_end at (x ∷ xs) = cond (eqb x 10) (suc at) (line_end (suc at) xs)

-- the place past the next k lines, or the end of the text
unfoldable pub lines_end : ℕ → ℕ → List ℕ → ℕ
lines_end zero at t = at
lines_end (suc k) at t = lines_end k (line_end at (drop at t)) t

-- a command of one line
abbrev pub one_line : Command → ℕ → Parsed
one_line m next = record { command = m; lines = 1; next = next }

-- 'A misformed command, a last one without byte 10, or a number of 4,294,967,296 or more'
abbrev pub malformed : List ℕ → ℕ → Parsed
malformed t at = one_line Command.Malformed (line_end at (drop at t))

-- a field of 32 bits with its separator s
abbrev pub limited : Found ℕ → Option (Found ℕ)
limited x = cond (ltb x.value 4294967296) (Some x) None

unfoldable pub word : List ℕ → ℕ → ℕ → Option (Found ℕ)
word t s at = with_found (field t s at) limited

-- The fields of a command stand from a place on.
-- `call`: process, sheet and the inputs i0 to i3, which byte 10 ends
unfoldable pub call_at : List ℕ → ℕ → Option Parsed
call_at t at =
    with_found (word t 44 at) (λ process.
    with_found (word t 44 process.next) (λ program.
    with_found (word t 44 program.next) (λ i0.
    with_found (word t 44 i0.next) (λ i1.
    with_found (word t 44 i1.next) (λ i2.
    with_found (word t 10 i2.next) (λ i3.
    Some (one_line
    (Command.Call process.value program.value (record { w0 = i0.value; w1 = i1.value; w2 = i2.value; w3 = i3.value })) i3.next)))))))

-- `wish`, `step`, `look`, `trace`: one number, which byte 10 ends
abbrev pub with_number : Verb → ℕ → Command
with_number Verb.Call v = Command.Malformed
with_number Verb.Exit v = Command.Exit v
with_number Verb.Step v = Command.Step v
with_number Verb.Trace v = Command.Trace v
with_number Verb.Read v = Command.Read v
with_number Verb.Change v = Command.Malformed
with_number Verb.Unknown v = Command.Malformed

abbrev pub numbered : List ℕ → Verb → ℕ → Option Parsed
numbered t verb at = option_map (λ x. one_line (with_number verb x.value) x.next) (word t 10 at)

-- `change`: sheet, gate number and the count of the lines of its text, which byte 10 ends. 'That sheet's lines as a card has them' follow: the next
-- `count` lines of the calls text, byte for byte, or what is left of it, which no line follows.
abbrev pub change_with : List ℕ → ℕ → ℕ → ℕ → ℕ → Parsed
change_with t program from count start =
    let end = lines_end count start t in
    record { command = Command.Change program from count start end; lines = suc count; next = end }

unfoldable pub change_at : List ℕ → ℕ → Option Parsed
change_at t at =
    with_found (word t 44 at) (λ program.
    with_found (word t 44 program.next) (λ from.
    with_found (word t 10 from.next) (λ count.
    Some (change_with t program.value from.value count.value count.next))))

-- the bytes from a place to another
abbrev pub part : List ℕ → ℕ → ℕ → List ℕ
part t start end = take (end - start) (drop start t)

-- the text of a change lies in the calls text
abbrev pub Inside : List ℕ → Command → Type 0
Inside t (Command.Call i k x) = Unit
Inside t (Command.Exit i) = Unit
Inside t (Command.Step i) = Unit
Inside t (Command.Trace i) = Unit
Inside t (Command.Read v) = Unit
Inside t (Command.Change k from count start end) = (start ≤ end) × (end ≤ length t)
Inside t Command.Malformed = Unit

-- the verb at a place, with the comma after it, and the place past both
unfoldable pub verb_at : List ℕ → ℕ → Found Verb
verb_at t at =
    cond (has_word t at call_word) (found Verb.Call (at + 5))
    (cond (has_word t at wish_word) (found Verb.Exit (at + 5))
    (cond (has_word t at step_word) (found Verb.Step (at + 5))
    (cond (has_word t at look_word) (found Verb.Read (at + 5))
    (cond (has_word t at trace_word) (found Verb.Trace (at + 6))
    (cond (has_word t at change_word) (found Verb.Change (at + 7))
    (found Verb.Unknown at))))))

-- the fields that follow a verb
unfoldable pub parsed_at : List ℕ → Verb → ℕ → Option Parsed
parsed_at t Verb.Call at = call_at t at
parsed_at t Verb.Exit at = numbered t Verb.Exit at
parsed_at t Verb.Step at = numbered t Verb.Step at
parsed_at t Verb.Trace at = numbered t Verb.Trace at
parsed_at t Verb.Read at = numbered t Verb.Read at
parsed_at t Verb.Change at = change_at t at
parsed_at t Verb.Unknown at = None

-- the same in a line that begins at `line`; where they are malformed, the line is
unfoldable pub fields_at : List ℕ → Verb → ℕ → ℕ → Parsed
fields_at t verb line at = unwrap_or (parsed_at t verb at) (malformed t line)

-- the command at a place, and the place past its lines
unfoldable pub command : List ℕ → ℕ → Parsed
command t at = fields_at t (verb_at t at).value at (verb_at t at).next

-- the commands from a place on, one after the other
unfoldable pub commands : List ℕ → ℕ → List Parsed
commands t at = items command (λ (m : Parsed). m.next) t at
