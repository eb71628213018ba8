-- The answer of the listing and the buffer lent to it, together (executions, specs/Listings).
use Rattle.std.specs.Prelude.{ℕ, ◌≡◌, List}
use Rattle.construction.specs.declared.{card.Card.Card}
use Rattle.construction.specs.Types.{Written}
use Rattle.executions.specs.declared.{Request.Request}
use Rattle.executions.specs.Listings.{listed, listed_into}

pub record Lists (c : Card) (calls : List Request) (length : ℕ) (b : List ℕ) (r : Written) (z : List ℕ) : Type 0 where
  pub answer : r ≡ listed c calls length b
  pub bytes : z ≡ listed_into c calls length b
