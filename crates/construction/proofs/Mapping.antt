-- A list made place by place from another, as a loop over an array makes it.
use mathlib.Core.Path.{◌≡◌, sym, ◌∙◌, ap}
use mathlib.Core.List.{List, [], ◌∷◌, ◌++◌, map, map-append}
use Prim.Native.Nat.{ℕ, ◌+◌, ◌<◌, ◌≤◌}
use lib.ListN.{length, get_or, take, set}
use lib.Seq.{take-suc, take-suc-set, take_all}
use native.Mathlib.Numerals.{add-one}

module _ {A B : Type 0} (f : A → B) where
  pub map_turn : (l : List A) (z : List B) (k : ℕ) (d : A) (b : B) → k < length l → k < length z → b ≡ f (get_or l k d) → take k z ≡ map f (take k l) →
      take (k + 1) (set z k b) ≡ map f (take (k + 1) l)
  map_turn l z k d b p q e h =
      rw (add-one k, take-suc-set z k b q, take-suc l k d p)
      (ap (λ (y : List B). y ++ (b ∷ [])) h
      ∙ ap (λ (y : B). map f (take k l) ++ (y ∷ [])) e
      ∙ sym (map-append f (take k l) (get_or l k d ∷ [])))

  pub map_done : (l : List A) (z : List B) (k : ℕ) → length l ≤ k → length z ≤ k → take k z ≡ map f (take k l) → z ≡ map f l
  map_done l z k p q h = sym (take_all k z q) ∙ h ∙ ap (λ (y : List A). map f y) (take_all k l p)
