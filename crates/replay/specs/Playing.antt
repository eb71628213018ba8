-- Where the texts of the input stand, and commands played with the cards before and after them compared.
use Rattle.std.specs.Prelude.{ℕ, suc, ◌≤◌, cond, ◌≡◌, List, [], ◌∷◌, length, drop, eqb}
use Rattle.session.specs.declared.State.{State}
use Rattle.session.specs.Session.{Prints}
use Rattle.report.specs.Same.{same_card}
use Rattle.replay.specs.declared.Played.{Played}

-- the place of the next such byte, or the end of the text
unfoldable pub place_of : ℕ → ℕ → List ℕ → ℕ
place_of byte at [] = at
place_of byte at (x ∷ xs) = cond (eqb x byte) at (place_of byte (suc at) xs)

pub record Finds (t : List ℕ) (byte start r : ℕ) : Type 0 where
  pub place : r ≡ place_of byte start (drop start t)
  pub past : start ≤ r
  pub within : r ≤ length t

-- the lines of a session as the bench program prints them, and whether every part of the card is the same after them
pub record Plays (t : List ℕ) (s : State) (b : List ℕ) (r : Played) (z : List ℕ) : Type 0 where
  pub prints : Prints t s b r.printed z
  pub same : r.same ≡ same_card s.card r.printed.state.card
