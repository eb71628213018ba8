-- What stands in a text one after the other: the item at a place tells the place of the next. Each has a byte at least, so the length of the text bounds how
-- many there are.
use Rattle.std.specs.Prelude.{ℕ, zero, suc, cond, List, [], ◌∷◌, length, ltb}

module _ {A : Type 0} (item : List ℕ → ℕ → A) (next : A → ℕ) where
  unfoldable pub items_from : ℕ → List ℕ → ℕ → List A
  items_from zero t at = []
  items_from (suc fuel) t at = cond (ltb at (length t)) (item t at ∷ items_from fuel t (next (item t at))) []

  -- from a place on
  unfoldable pub items : List ℕ → ℕ → List A
  items t at = items_from (length t) t at
