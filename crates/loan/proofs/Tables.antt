-- Numbers of a table, one behind the other, and what stands behind them
use Prim.Native.Nat.{ℕ, zero, suc, ◌+◌, ◌-◌, ◌<◌, ◌≤◌}
use mathlib.Core.Path.{◌≡◌, refl, sym, ◌∙◌}
use mathlib.Core.List.{List, ◌∷◌, ◌++◌, map}
use native.Mathlib.Omega.{arith}
use native.Mathlib.Numerals.{add-one}
use lib.ListN.{length, get_or, set, take, replicate, length-append, length-replicate}
use Rattle.construction.proofs.Basics.{get_or_replicate_same}
use Rattle.codes.specs.Parts.{table}
use Rattle.codes.proofs.Blocks.{length_table}
use Rattle.loan.specs.Items.{padded}

module _ {A : Type 0} where
  -- the same elements, and the first one behind them replaced
  pub table_more :
      (d : A) (m n : ℕ) (f g : ℕ → A) (e : A) → g n ≡ e → ((k : ℕ) → k < n → g k ≡ f k) →
      table (suc n) g ++ replicate m d ≡ set (table n f ++ replicate (suc m) d) n e
  unfolding table
  table_more d m zero f g e p h = λ j. p j ∷ replicate m d
  table_more d m (suc n) f g e p h =
      let z : g 0 ≡ f 0 = h 0 (omega arith) in
      let r = table_more d m n (λ k. f (suc k)) (λ k. g (suc k)) e p (λ k q. h (suc k) (omega arith)) in
      λ j. z j ∷ r j

  -- past the table
  pub table_past : (d : A) (n : ℕ) (f : ℕ → A) (m k : ℕ) → n ≤ k → get_or (table n f ++ replicate m d) k d ≡ d
  unfolding table
  table_past d zero f m k p = get_or_replicate_same m k d
  table_past d (suc n) f m zero p = absurd (omega arith)
  table_past d (suc n) f m (suc k) p = table_past d n (λ k. f (suc k)) m k (omega arith)

  -- its first elements
  pub table_taken : (n : ℕ) (f : ℕ → A) (r : List A) → take n (table n f ++ r) ≡ table n f
  unfolding table
  table_taken zero f r = refl
  table_taken (suc n) f r = rw (table_taken n (λ k. f (suc k)) r)

  pub table_mapped : (g : A → ℕ) (n : ℕ) (f : ℕ → A) (r : List A) → take n (map g (table n f ++ r)) ≡ table n (λ k. g (f k))
  unfolding table
  table_mapped g zero f r = refl
  table_mapped g (suc n) f r = rw (table_mapped g n (λ k. f (suc k)) r)

-- an array that is filled
pub padded_start : (f : ℕ → ℕ) → replicate 32 0 ≡ padded 0 f
unfolding table
padded_start f = refl

pub padded_more : (xs : List ℕ) (k x : ℕ) (f : ℕ → ℕ) → xs ≡ padded k f → k < 32 → x ≡ f k → set xs k x ≡ padded (k + 1) f
padded_more xs k x f e p q =
    let s : 32 - k ≡ suc (32 - suc k) = omega arith in
    rw (e, add-one k, s) (sym (table_more 0 (32 - suc k) k f f x (sym q) (λ j r. refl)))

pub padded_length : (n : ℕ) (f : ℕ → ℕ) → n ≤ 32 → length (padded n f) ≡ 32
padded_length n f p =
    let t = length_table n f in
    length-append (table n f) (replicate (32 - n) 0) ∙ rw (t, length-replicate) (omega arith)
