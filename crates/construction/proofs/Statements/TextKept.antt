-- No entry changes the text of a card: what it was opened with stays, so the writer writes the same bytes after any entries.
use Rattle.std.specs.Prelude.{Ok}
use Prim.Native.Nat.{ℕ}
use mathlib.Core.Path.{◌≡◌, refl, sym, ap, ◌∙◌}
use mathlib.Core.List.{List}
use Rattle.construction.specs.Types.{Card, Contents}
use Rattle.construction.specs.Parts.{contents_of}
use Rattle.construction.specs.Opening.{fresh, opened}
use Rattle.construction.specs.Writing.{text_of}
use Rattle.construction.specs.History.{Entry, run}
use Rattle.construction.proofs.Text.RoundTrip.{given_back_lem}
use Rattle.construction.proofs.Observing.Runs.{opened_consistent}

text_of_lem : (c : Card) → text_of c ≡ text_of (fresh (contents_of c))
unfolding text_of fresh
text_of_lem c = refl

-- 'The writer writes the card as it was opened, after any steps'
pub same_text : (t : List ℕ) (es : List Entry) → text_of (run (opened t).card es).card ≡ text_of (opened t).card
same_text t es =
    let o = (opened t).card in
    text_of_lem (run o es).card ∙ (ap (λ (x : Contents). text_of (fresh x)) (opened_consistent t es).text ∙ sym (text_of_lem o))

-- the writer's promise: a text that opens is what is written for its card after any list of entries
pub given_back_after :
    (t : List ℕ) → (opened t).verdict ≡ Ok tt → (es : List Entry) → text_of (run (opened t).card es).card ≡ t
given_back_after t a es = same_text t es ∙ given_back_lem t a
