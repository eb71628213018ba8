-- What the writer does (document 01, 'Turned back').
use Rattle.std.specs.Prelude.{ℕ, List, ◌≡◌}
use Rattle.construction.specs.declared.{card.Card.Card}
use Rattle.construction.specs.Writing.{written, written_into}
use Rattle.construction.specs.Types.{Written}

-- the answer r and the bytes z that the writer gives for a card and the bytes b of a lent buffer: the length and the text, or refusal 11 and
-- every byte as it was ('bytes past a written text do too')
pub record Writes (c : Card) (b : List ℕ) (r : Written) (z : List ℕ) : Type 0 where
  pub answer : r ≡ written c b
  pub bytes : z ≡ written_into c b
