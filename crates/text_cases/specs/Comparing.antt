-- What the writer does in a buffer, and the buffer compared with the text that is wanted ('Turned back': bytes past a written text remain as they were)
use Rattle.std.specs.Prelude.{ℕ, ◌+◌, ◌-◌, Bool, cond, List, ◌++◌, length, get_or, take, drop, replicate, eqb, ltb, Ok, Err}
use Rattle.construction.specs.declared.{card.Card.Card}
use Rattle.construction.specs.Writing.{written, written_into}
use Rattle.construction.specs.Types.{Written}
use Rattle.report.specs.Same.{all_below}
use Rattle.text_cases.specs.declared.{Outcome.Outcome, Outcomes.Outcomes}

-- the byte that stands in a buffer before it is lent
abbrev pub filler : ℕ
filler = 165

-- the byte at place k after so many bytes of a text were written
abbrev pub expected_at : List ℕ → ℕ → ℕ → ℕ
expected_at text told k = cond (ltb k told) (get_or text k 0) filler

abbrev pub agrees_at : List ℕ → List ℕ → ℕ → ℕ → Bool
agrees_at b text told k = eqb (get_or b k 0) (expected_at text told k)

unfoldable pub agrees_with : List ℕ → List ℕ → ℕ → Bool
agrees_with b text told = all_below (length b) (agrees_at b text told)

-- how many bytes the writer told
abbrev pub bytes_of : Written → ℕ
bytes_of (Ok n) = n
bytes_of (Err r) = 0

-- a buffer after its first bytes were lent to the writer
abbrev pub lent_after : Card → ℕ → List ℕ → List ℕ
lent_after c room b = written_into c (take room b) ++ drop room b

-- what the writer does in the first bytes of a buffer: its answer, and the whole buffer compared
abbrev pub outcome_in : Card → List ℕ → ℕ → List ℕ → Outcome
outcome_in c wanted room b =
    record {
      written = written c (take room b);
      same = agrees_with (lent_after c room b) wanted (bytes_of (written c (take room b)));
    }

unfoldable pub outcome_of : Card → List ℕ → ℕ → Outcome
outcome_of c wanted room = outcome_in c wanted room (replicate 8192 filler)

-- buffers of eight bytes more than the text, of its length, of one byte less and of none
unfoldable pub outcomes_of : Card → List ℕ → ℕ → Outcomes
outcomes_of c wanted room =
    record {
      more = outcome_of c wanted (room + 8);
      exact = outcome_of c wanted room;
      short = outcome_of c wanted (room - 1);
      none = outcome_of c wanted 0;
    }
