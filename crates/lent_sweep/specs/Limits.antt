-- What a sweep needs so that only the card's limit refuses a step of it (document 02, order 12): every process has an operation under way, its call stands in the table
-- with a program that is there, and the schedule names processes of the card alone.
use Rattle.std.specs.Prelude.{ℕ, ◌<◌, ◌≡◌, true, List, [], ◌∷◌}
use Rattle.construction.specs.declared.card.Card.{Card}
use Rattle.construction.specs.Requests.{is_program, is_busy}
use Rattle.calls.specs.Tables.{has_request, request_in}

abbrev pub AllBusy : Card → Type 0
AllBusy c = (i : ℕ) → i < c.process_count → is_busy c i ≡ true

abbrev pub AllCalled : Card → List ℕ → Type 0
AllCalled o calls = (i : ℕ) → i < o.process_count → (has_request calls i ≡ true) × (is_program o (request_in calls i).program ≡ true)

unfoldable pub Within : ℕ → List ℕ → Type 0
Within p [] = Unit
Within p (i ∷ is) = (i < p) × Within p is
