-- The items of a text one after the other.
use mathlib.Core.Bool.{Bool, true, false, cond}
use mathlib.Core.Path.{◌≡◌, refl, ◌∙◌, ap}
use mathlib.Core.List.{List, [], ◌∷◌}
use Prim.Native.Nat.{ℕ, zero, suc, ◌+◌, ◌<◌, ◌≤◌}
use lib.Dec.{ltb}
use lib.ListN.{length}
use native.Mathlib.Omega.{arith}
use borrow.Author.Tests.{lt-ltb, le-ltb, ltb-true}
use Rattle.grammar.specs.Items.{items_from, items}
use Rattle.grammar.proofs.Cases.{on_test}

module _ {A : Type 0} (item : List ℕ → ℕ → A) (next : A → ℕ) (t : List ℕ) where
  -- what holds of none, and with one more item if without it, holds of all
  pub items_induction : (P : List A → Type 0) → P [] → ((at : ℕ) (xs : List A) → P xs → P (item t at ∷ xs)) → (at : ℕ) → P (items item next t at)
  unfolding items items_from
  items_induction P none more at = go (length t) at
    where
      go : (f at : ℕ) → P (items_from item next f t at)
      go zero at = none
      go (suc f) at = on_test P (ltb at (length t)) (λ _. more at _ (go f (next (item t at)))) (λ _. none)

  -- an item ends past its place: enough fuel is enough
  module _ (past : (at : ℕ) → at < length t → at < next (item t at)) where
    fuel : (f at : ℕ) → length t ≤ at + f → items_from item next f t at ≡ items_from item next (suc f) t at
    unfolding items_from
    fuel zero at p = rw (let h : length t ≤ at = omega arith in le-ltb at (length t) h)
    fuel (suc f) at p = go (λ n h. fuel f n h) (ltb at (length t)) refl
      where
        go :
            ((n : ℕ) → length t ≤ n + f → items_from item next f t n ≡ items_from item next (suc f) t n) → (b : Bool) → ltb at (length t) ≡ b →
            cond b (item t at ∷ items_from item next f t (next (item t at))) [] ≡ cond b (item t at ∷ items_from item next (suc f) t (next (item t at))) []
        go h true e =
            let n = past at (ltb-true at (length t) e) in
            ap (λ (xs : List A). item t at ∷ xs) (h (next (item t at)) (omega arith))
        go h false e = refl

    pub items_end : (at : ℕ) → length t ≤ at → items item next t at ≡ []
    unfolding items items_from
    items_end at h = fuel (length t) at (omega arith) ∙ rw (le-ltb at (length t) h)

    pub items_more : (at : ℕ) → at < length t → items item next t at ≡ item t at ∷ items item next t (next (item t at))
    unfolding items items_from
    items_more at h = fuel (length t) at (omega arith) ∙ rw (lt-ltb at (length t) h)
