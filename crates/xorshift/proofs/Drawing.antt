-- A schedule that is drawn process by process.
use Prim.Native.Nat.{ℕ, zero, suc, ◌+◌, ◌<◌, ◌≤◌}
use mathlib.Core.Path.{◌≡◌, refl, sym, ◌∙◌, ap}
use mathlib.Core.List.{List, [], ◌∷◌, ◌++◌}
use native.Mathlib.Numerals.{add-one}
use native.Mathlib.Nat.{zero-add, mod-lt}
use native.Mathlib.Omega.{arith}
use lib.ListN.{length, take, set, length-set}
use lib.Seq.{take-suc-set, take_all}
use borrow.Author.Tests.{ne_eqb}
use Rattle.xorshift.specs.Xorshift.{next, remainder, after, drawn, Draws}

-- one draw more, at the end
after_next : (n x : ℕ) → next (after n x) ≡ after (suc n) x
unfolding after
after_next zero x = refl
after_next (suc n) x = after_next n (next x)

drawn_more : (n x p : ℕ) → drawn n x p ++ (remainder (after (suc n) x) p ∷ []) ≡ drawn (suc n) x p
unfolding drawn after
drawn_more zero x p = refl
drawn_more (suc n) x p = ap (λ (l : List ℕ). remainder (next x) p ∷ l) (drawn_more n (next x) p)

-- the first k places of the buffer z are drawn, and x' is the number drawn last
pub record Drawn (b : List ℕ) (x p k x' : ℕ) (z : List ℕ) : Type 0 where
  pub number : x' ≡ after k x
  pub bytes : take k z ≡ drawn k x p
  pub size : length z ≡ length b
  pub inside : k ≤ length z

pub drawn_none : (b : List ℕ) (x p : ℕ) → Drawn b x p 0 x b
unfolding after drawn
drawn_none b x p = record { number = refl; bytes = refl; size = refl; inside = omega arith }

module _ {b : List ℕ} {x p k x' : ℕ} {z : List ℕ} where
  pub drawn_on : {n y : ℕ} → Drawn b x p k x' z → k < length z → n ≡ next x' → y ≡ remainder n p → Drawn b x p (k + 1) n (set z k y)
  drawn_on {n} {y} h below en ey =
      let number : n ≡ after (suc k) x = en ∙ ap next h.number ∙ after_next k x in
      let long : length (set z k y) ≡ length z = length-set z k y in
      record {
        number = rw add-one number;
        bytes = rw (add-one, take-suc-set z k y below, h.bytes, ey, number) (drawn_more k x p);
        size = long ∙ h.size;
        inside = omega arith;
      }

  pub drawn_all : Drawn b x p k x' z → length z ≤ k → Draws b x p x' z
  drawn_all h done =
      let e : k ≡ length b = omega (arith, h.size, h.inside) in
      record { number = rw (← e) h.number; bytes = sym (take_all k z done) ∙ rw (← e) h.bytes }

-- how many are drawn, one part behind another, and that all are processes of the p
pub drawn_length : (n x p : ℕ) → length (drawn n x p) ≡ n
unfolding drawn
drawn_length zero x p = refl
drawn_length (suc n) x p = ap suc (drawn_length n (next x) p)

pub drawn_append : (m n x p : ℕ) → drawn (m + n) x p ≡ drawn m x p ++ drawn n (after m x) p
unfolding drawn after
drawn_append zero n x p = rw (zero-add n)
drawn_append (suc m) n x p =
    let e : suc m + n ≡ suc (m + n) = omega arith in
    rw e (ap (λ (l : List ℕ). remainder (next x) p ∷ l) (drawn_append m n (next x) p))

pub remainder_below : (x p : ℕ) → 0 < p → remainder x p < p
unfolding remainder
remainder_below x p h = rw (ne_eqb p 0 (λ e. omega arith)) (mod-lt x {m = p} (omega arith))
