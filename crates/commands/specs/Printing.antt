-- The printed lines (document 01, 'The bench program'): 'the verb and first number, then' the fields of the answer, as construction's
-- specs/Answers gives them. Byte 10 ends each line.
use Rattle.std.specs.Prelude.{ℕ, Bool, true, false, List, [], ◌∷◌, ◌++◌, get_or}
use Rattle.construction.specs.declared.{answers.Answer.Answer, answers.Report.Report}
use Rattle.construction.specs.Answers.{bytes, Fields, fields, refused_with, answer_fields, verdict_fields, numbers_text, fields_text}
use Rattle.construction.specs.Reports.{report_text}
use Rattle.construction.specs.Types.{Verdict}
use Rattle.commands.specs.declared.Command.{Command}
use Rattle.commands.specs.CommandFields.{command_fields}

abbrev pub is_malformed : Command → Bool
is_malformed (Command.Call i k x) = false
is_malformed (Command.Exit i) = false
is_malformed (Command.Step i) = false
is_malformed (Command.Trace i) = false
is_malformed (Command.Read v) = false
is_malformed (Command.Change k from count start end) = false
is_malformed Command.Malformed = true

-- what the line of a command begins with, by its fields; of a malformed one `line,N`, where N is the number of its line
abbrev pub head_fields : ℕ → Command → Fields
head_fields line (Command.Call i k x) = command_fields (Command.Call i k x)
head_fields line (Command.Exit i) = command_fields (Command.Exit i)
head_fields line (Command.Step i) = command_fields (Command.Step i)
head_fields line (Command.Trace i) = command_fields (Command.Trace i)
head_fields line (Command.Read v) = command_fields (Command.Read v)
head_fields line (Command.Change k from count start end) = command_fields (Command.Change k from count start end)
head_fields line Command.Malformed = fields "line" (line ∷ [])

-- 'the verb and first number'
unfoldable pub verb_of : Command → List ℕ
verb_of m = (head_fields 0 m).word

unfoldable pub first_of : ℕ → Command → ℕ
first_of line m = get_or (head_fields line m).numbers 0 0

unfoldable pub head_text : ℕ → Command → List ℕ
head_text line m = verb_of m ++ numbers_text (first_of line m ∷ [])

-- a line: what it begins with, and the fields that follow
abbrev pub line_with : List ℕ → Fields → List ℕ
line_with start f = start ++ (fields_text f ++ (10 ∷ []))

-- the line of a command, what is told of it (document 02, order 1: nothing but of a traced step that is accepted) and its answer
unfoldable pub line_text : ℕ → Command → Report → Answer → List ℕ
line_text line m r a = line_with (head_text line m ++ report_text r) (answer_fields a)

-- no line is longer: a verb, the six fields of a report, `fault` and seven numbers of at most 20 digits with their separators
abbrev pub longest : ℕ
longest = 269

-- 'A refused card .. prints only `card,refused,number,line`'
abbrev pub card_refusal : Verdict → List ℕ
card_refusal v = line_with (bytes "card") (verdict_fields v)

-- '(at most 65,536 bytes, else it prints only `calls,refused,1`)'
abbrev pub calls_refusal : List ℕ
calls_refusal = line_with (bytes "calls") (refused_with 1)
