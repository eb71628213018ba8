-- One turn more of each loop over the words of a loan, and its end.
use Prim.Native.Nat.{ℕ, zero, suc, ◌+◌, ◌-◌, ◌<◌, ◌≤◌, min}
use mathlib.Core.Bool.{true, false}
use mathlib.Core.List.{List, [], ◌∷◌}
use mathlib.Core.Path.{◌≡◌, refl, sym}
use native.Mathlib.Omega.{arith}
use native.Mathlib.Numerals.{add-one}
use borrow.Author.Tests.{eq-eqb, ne_eqb}
use lib.ListN.{length, get_or, set, drop}
use lib.Seq.{drop-cons}
use Rattle.xorshift.specs.Xorshift.{next}
use Rattle.lent_session.specs.Altering.{drawn, drawn_last, altered_loan, last_drawn, pattern, kept}

-- words that are drawn
pub draws_on :
    (n k x y : ℕ) (l : List ℕ) → k < n → y ≡ next x →
    (drawn (n - k) k x l ≡ drawn (n - (k + 1)) (k + 1) y (set l k y)) × (drawn_last (n - k) x ≡ drawn_last (n - (k + 1)) y)
unfolding drawn drawn_last
draws_on n k x y l h e = let f : n - k ≡ suc (n - (k + 1)) = omega arith in (rw (f, e), rw (f, e))

pub draws_done : (n k x : ℕ) (l : List ℕ) → n ≤ k → (drawn (n - k) k x l ≡ l) × (drawn_last (n - k) x ≡ x)
unfolding drawn drawn_last
draws_done n k x l h = let f : n - k ≡ zero = omega arith in (rw f, rw f)

pub draws_whole : (n x : ℕ) (l : List ℕ) → (drawn n 0 x l ≡ drawn (n - 0) 0 x l) × (drawn_last n x ≡ drawn_last (n - 0) x)
draws_whole n x l = let f : n - 0 ≡ n = omega arith in (rw f, rw f)

-- the loan that they leave, where x is not 0, and where it is
pub altered_to :
    (l : List ℕ) (words x : ℕ) (m : List ℕ) (last : ℕ) → (x ≡ 0 → ⊥) → drawn (min words (length l)) 0 x l ≡ m → drawn_last (min words (length l)) x ≡ last →
    (m ≡ altered_loan l words x) × (last ≡ last_drawn l words x)
altered_to l words x m last h e f = let z = ne_eqb x 0 h in (rw z (sym e), rw z (sym f))

pub altered_none : (l : List ℕ) (words x : ℕ) → x ≡ 0 → (l ≡ altered_loan l words x) × (x ≡ last_drawn l words x)
altered_none l words x h = let z = eq-eqb x 0 h in (rw z, rw z)

-- words that keep the pattern
pub keeps_on : (l : List ℕ) (k : ℕ) → k < length l → get_or l k 0 ≡ pattern → kept (drop k l) ≡ kept (drop (k + 1) l)
unfolding kept
keeps_on l k h e = rw (drop-cons l k 0 h, e, add-one k)

pub keeps_not : (l : List ℕ) (k : ℕ) → k < length l → (get_or l k 0 ≡ pattern → ⊥) → kept (drop k l) ≡ false
unfolding kept
keeps_not l k h e = rw (drop-cons l k 0 h, ne_eqb (get_or l k 0) pattern e)

pub keeps_end : (l : List ℕ) (k : ℕ) → length l ≤ k → kept (drop k l) ≡ true
unfolding kept
keeps_end [] zero h = refl
keeps_end [] (suc k) h = refl
keeps_end (w ∷ l) zero h = absurd (omega arith)
keeps_end (w ∷ l) (suc k) h = keeps_end l k (omega arith)
