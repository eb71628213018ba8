-- The line of a case: its number, the verdict on its text, and for each of four buffers what the writer answers and whether the buffer then holds the
-- text that is wanted
use Rattle.std.specs.Prelude.{ℕ, min, Bool, cond, List, [], ◌∷◌, ◌++◌, length}
use Rattle.grammar.specs.Writing.{decimal}
use Rattle.construction.specs.declared.texts.Opened.{Opened}
use Rattle.construction.specs.Answers.{bytes, verdict_fields, written_fields, fields_text}
use Rattle.construction.specs.Opening.{opened}
use Rattle.text_cases.specs.declared.{Outcome.Outcome, Outcomes.Outcomes}
use Rattle.text_cases.specs.Comparing.{outcomes_of}

abbrev pub agreement_text : Bool → List ℕ
agreement_text same = cond same (bytes ",same") (bytes ",differs")

unfoldable pub outcome_text : Outcome → List ℕ
outcome_text x = fields_text (written_fields x.written) ++ agreement_text x.same

unfoldable pub outcomes_text : Outcomes → List ℕ
outcomes_text x = outcome_text x.more ++ (outcome_text x.exact ++ (outcome_text x.short ++ outcome_text x.none))

-- no card text is longer than 8,000 bytes
abbrev pub case_line : ℕ → List ℕ → ℕ → Opened → List ℕ
case_line number wanted size x =
    decimal number
    ++ (fields_text (verdict_fields x.verdict) ++ (outcomes_text (outcomes_of x.card wanted (min size 8000)) ++ (10 ∷ [])))

unfoldable pub case_text : ℕ → List ℕ → List ℕ → List ℕ
case_text number text wanted = case_line number wanted (length text) (opened text)
