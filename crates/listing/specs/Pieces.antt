-- The pieces of a listing as the public functions give them, for every value: none where there are more than 3 processes or 16 steps.
use Rattle.std.specs.Prelude.{ℕ, ◌+◌, ◌^◌, cond, ◌&&◌, List, [], leb}
use Rattle.construction.specs.declared.{card.Card.Card}
use Rattle.executions.specs.Listings.{piece_after}

abbrev pub pieces_of : ℕ → ℕ → ℕ
pieces_of count first = cond (leb count 3 && leb first 16) (count ^ first) 0

unfoldable pub piece_text : ℕ → ℕ → ℕ → Card → List ℕ
piece_text first left j c = cond (leb c.process_count 3 && leb (first + left) 16) (piece_after first left j c [] []) []
