-- The writer's answers by number (document 02, order 7: 'A lent buffer too small is refused with 11 and keeps its bytes').
use Prim.Native.Nat.{ℕ, ◌<◌, ◌≤◌}
use mathlib.Core.Path.{◌≡◌, ap}
use mathlib.Core.List.{List, [], ◌∷◌, ◌++◌}
use lib.ListN.{length, drop}
use lib.Dec.{leb}
use borrow.Author.Tests.{le-leb, lt-leb, leb-false}
use Rattle.grammar.proofs.Cases.{on_test, clash}
use Rattle.construction.specs.Answers.{Fields, bytes, fields, refused_with, written_fields}
use Rattle.construction.specs.Types.{Written}
use Rattle.dump.specs.Dump.{written, written_into}

module _ (text b : List ℕ) where
  pub dump_short : length b < length text → (written_fields (written text b) ≡ refused_with 11) × (written_into text b ≡ b)
  unfolding written written_into written_fields
  dump_short h = (rw (lt-leb (length text) (length b) h), rw (lt-leb (length text) (length b) h))

  pub dump_fits :
      length text ≤ length b → (written_fields (written text b) ≡ fields "" (length text ∷ [])) × (written_into text b ≡ text ++ drop (length text) b)
  unfolding written written_into written_fields
  dump_fits h = (rw (le-leb (length text) (length b) h), rw (le-leb (length text) (length b) h))

  -- no other buffer is refused
  pub dump_short_only : written_fields (written text b) ≡ refused_with 11 → length b < length text
  unfolding written written_fields
  dump_short_only =
      on_test (λ (w : Written). written_fields w ≡ refused_with 11 → length b < length text) (leb (length text) (length b))
      (λ _ e. let z : bytes "" ≡ bytes "refused" = ap (λ (f : Fields). f.word) e in clash (cc))
      (λ h _. leb-false (length text) (length b) h)
