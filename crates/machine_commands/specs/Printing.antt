-- The printed lines (document 02, order 14; docs/FORMATS.md): 'the verb, M, the first number, then the answer as the bench program has it', `turn,taken`; those
-- of refused terms and of a refused card. Byte 10 ends each line.
use Rattle.std.specs.Prelude.{ℕ, cond, List, [], ◌∷◌, ◌++◌}
use Rattle.construction.specs.declared.{answers.Answer.Answer, answers.Report.Report}
use Rattle.construction.specs.Answers.{bytes, answer_fields, verdict_fields, numbers_text}
use Rattle.construction.specs.Reports.{report_text}
use Rattle.construction.specs.Types.{Verdict}
use Rattle.commands.specs.declared.Command.{Command}
use Rattle.commands.specs.Printing.{is_malformed, verb_of, first_of, line_with}
use Rattle.machine_commands.specs.declared.Request.{Request}

-- the number of the machine; a malformed command has none, and its line is `line,N` as in the bench program
unfoldable pub machine_text : ℕ → Command → List ℕ
machine_text m c = cond (is_malformed c) [] (numbers_text (m ∷ []))

unfoldable pub to_text : ℕ → ℕ → Command → List ℕ
to_text line m c = verb_of c ++ (machine_text m c ++ numbers_text (first_of line c ∷ []))

-- what the line of a request begins with
unfoldable pub head_text : ℕ → Request → List ℕ
head_text line (Request.To m c) = to_text line m c
head_text line Request.Turn = bytes "turn"

-- the line of a request, what is told of a traced step and the answer
unfoldable pub line_text : ℕ → Request → Report → Answer → List ℕ
line_text line q r a = line_with (head_text line q ++ report_text r) (answer_fields a)

-- no line is longer: 21 bytes more than in the bench program, for the machine
abbrev pub longest : ℕ
longest = 290

-- `machines,refused,NUMBER,LINE`
abbrev pub terms_refusal : Verdict → List ℕ
terms_refusal v = line_with (bytes "machines") (verdict_fields v)

-- `card,M,refused,NUMBER,LINE`
abbrev pub card_refusal : ℕ → Verdict → List ℕ
card_refusal m v = line_with (bytes "card" ++ numbers_text (m ∷ [])) (verdict_fields v)
