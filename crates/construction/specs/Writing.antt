-- The text of a card, and what the writer answers and leaves in a lent buffer (document 01, 'Turned back').
use Rattle.std.specs.Prelude.{ℕ, zero, suc, cond, List, [], ◌++◌, length, get_or, drop, eqb, leb, Ok, Err}
use Rattle.construction.specs.Types.{Line, Program, Card, ShortBuffer, Written}
use Rattle.construction.specs.Instructions.{no_line, no_program}
use Rattle.construction.specs.Lines.{card_text, var_text, sheet_text, ins_text}

-- m lines from place k on
unfoldable pub vars_text : ℕ → ℕ → List ℕ → List ℕ
vars_text zero k l = []
vars_text (suc m) k l = var_text (get_or l k 0) ++ vars_text m (suc k) l

unfoldable pub lines_text : ℕ → ℕ → List Line → List ℕ
lines_text zero k l = []
lines_text (suc m) k l = ins_text (get_or l k no_line).instruction ++ lines_text m (suc k) l

abbrev pub program_text : Program → List ℕ
program_text x = sheet_text x.length ++ lines_text x.length 0 x.lines

unfoldable pub programs_text : ℕ → ℕ → List Program → List ℕ
programs_text zero k l = []
programs_text (suc m) k l = program_text (get_or l k no_program) ++ programs_text m (suc k) l

-- 'The writer writes the card as it was opened, after any steps .. the empty card writes as no bytes.'
unfoldable pub text_of : Card → List ℕ
text_of c =
    cond (eqb c.process_count 0) []
    (card_text c.process_count c.variable_count c.program_count c.limit
    ++ (vars_text c.variable_count 0 c.starts ++ programs_text c.program_count 0 c.programs))

-- refusal 11, or the length; and the buffer: the text, then the bytes past it as they were
unfoldable pub written : Card → List ℕ → Written
written c b = cond (leb (length (text_of c)) (length b)) (Ok (length (text_of c))) (Err ShortBuffer)

unfoldable pub written_into : Card → List ℕ → List ℕ
written_into c b = cond (leb (length (text_of c)) (length b)) (text_of c ++ drop (length (text_of c)) b) b
