-- The text of the calls (document 02, orders 12 and 13): exactly p lines, of which line i + 1 is `call,i,SHEET,I0,I1,I2,I3`, 'with fields and line ends as in the card
-- text'. The first line that breaks this is refused with 2: another verb or process, malformed, missing, left over, or unended.
use Rattle.std.specs.Prelude.{ℕ, zero, suc, cond, List, [], ◌∷◌, ◌++◌, eqb, ltb, length, replicate, Option, Some, None, Result, Ok, Err}
use Rattle.grammar.specs.Writing.{decimal}
use Rattle.construction.specs.Answers.{bytes, refused_with, fields_text}
use Rattle.commands.specs.declared.Command.{Command}
use Rattle.commands.specs.Commands.{command}
use Rattle.executions.specs.declared.Request.{Request}
use Rattle.calls.specs.declared.WrongLine.{WrongLine}
use Rattle.calls.specs.Tables.{with_request}

-- all the calls, or the first line that is wrong and the calls before it
abbrev pub Calls : Type 0
Calls = Result (List ℕ) WrongLine

-- line i + 1 is wrong
abbrev pub wrong_line : List ℕ → ℕ → Calls
wrong_line words i = Err (record { line = suc i; words = words })

-- the call that a command makes for process i
abbrev pub own_call : ℕ → Request → ℕ → Option Request
own_call j x i = cond (eqb j i) (Some x) None

abbrev pub requested : Command → ℕ → Option Request
requested (Command.Call j k inputs) i = own_call j (record { program = k; inputs = inputs }) i
requested (Command.Exit j) i = None
requested (Command.Step j) i = None
requested (Command.Trace j) i = None
requested (Command.Read v) i = None
requested (Command.Change k from count start end) i = None
requested Command.Malformed i = None

abbrev pub if_requested : Option Request → Calls → (Request → Calls) → Calls
if_requested (Some x) wrong go = go x
if_requested None wrong go = wrong

-- the next m lines, from that of process i at a place of the text on, behind the calls that were read
unfoldable pub calls_from : ℕ → List ℕ → ℕ → ℕ → List ℕ → Calls
calls_from zero t i at words = cond (ltb at (length t)) (wrong_line words i) (Ok words)
calls_from (suc m) t i at words =
    if_requested (requested (command t at).command i) (wrong_line words i) (λ x. calls_from m t (suc i) (command t at).next (with_request words i x))

unfoldable pub calls_of : List ℕ → ℕ → Calls
calls_of t p = calls_from p t 0 0 (replicate 40 0)

-- what is printed of a wrong line: `line,N,refused,2`
unfoldable pub line_refusal : ℕ → List ℕ
line_refusal n = (bytes "line," ++ decimal n) ++ (fields_text (refused_with 2) ++ (10 ∷ []))
