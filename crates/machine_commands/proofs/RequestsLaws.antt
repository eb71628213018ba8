-- Where the request at a place ends, and the requests of a text one after the other.
use mathlib.Core.Path.{◌≡◌, refl}
use mathlib.Core.List.{List, [], ◌∷◌}
use Prim.Native.Nat.{ℕ, ◌<◌, ◌≤◌}
use lib.ListN.{length}
use native.Mathlib.Omega.{arith}
use Rattle.grammar.specs.Reading.{has_word}
use Rattle.grammar.proofs.Cases.{on_test}
use Rattle.grammar.proofs.Items.{items_end, items_more, items_induction}
use Rattle.std.specs.Prelude.{Option, Some, None}
use Rattle.grammar.specs.declared.Found.{Found}
use Rattle.commands.specs.Commands.{word, verb_at}
use Rattle.commands.proofs.CommandsLaws.{OnSome, line_past, word_past, fields_past, verb_past, fields_inside}
use Rattle.machine_commands.specs.declared.Line.{Line}
use Rattle.machine_commands.specs.Requests.{turn_line, after_machine, request, InsideOf, requests}

-- a request ends past its place
pub request_past : (t : List ℕ) (at : ℕ) → at < length t → at < (request t at).next
unfolding request
request_past t at h =
    on_test (λ (m : Line). at < m.next) (has_word t at turn_line) (λ _. omega arith) (λ _. go (word t 44 (verb_at t at).next) (word_past t 44 (verb_at t at).next))
  where
    go : (w : Option (Found ℕ)) → OnSome (λ x. (verb_at t at).next < x.next) w → at < (after_machine t (verb_at t at).value at w).next
    go (Some m) e = fields_past t (verb_at t at).value at m.next h (omega (arith, verb_past t at))
    go None e = line_past t at h

-- the text of a change lies in the calls text
pub request_inside : (t : List ℕ) (at : ℕ) → InsideOf t (request t at).request
unfolding request
request_inside t at =
    on_test (λ (m : Line). InsideOf t m.request) (has_word t at turn_line) (λ _. tt) (λ _. go (word t 44 (verb_at t at).next))
  where
    go : (w : Option (Found ℕ)) → InsideOf t (after_machine t (verb_at t at).value at w).request
    go (Some m) = fields_inside t (verb_at t at).value at m.next
    go None = tt

-- ---- the requests of a text
module _ (t : List ℕ) where
  pub requests_end : (at : ℕ) → length t ≤ at → requests t at ≡ []
  unfolding requests
  requests_end at h = items_end request (λ (m : Line). m.next) t (request_past t) at h

  pub requests_more : (at : ℕ) → at < length t → requests t at ≡ request t at ∷ requests t (request t at).next
  unfolding requests
  requests_more at h = items_more request (λ (m : Line). m.next) t (request_past t) at h

  pub requests_induction : (P : List Line → Type 0) → P [] → ((at : ℕ) (ms : List Line) → P ms → P (request t at ∷ ms)) → (at : ℕ) → P (requests t at)
  unfolding requests
  requests_induction P none more at = items_induction request (λ (m : Line). m.next) t P none more at
