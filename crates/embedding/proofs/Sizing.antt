-- Words to lend, and the longest wait.
use Prim.Native.Nat.{ℕ, ◌*◌, ◌<◌, ◌≤◌, min}
use mathlib.Core.Path.{◌≡◌, refl, sym}
use mathlib.Core.List.{List}
use mathlib.Core.Bool.{Bool, true, false, cond, ◌&&◌}
use native.Mathlib.Omega.{arith}
use lib.Dec.{ltb, leb}
use borrow.Author.Tests.{le-leb, lt-leb, le-ltb, ltb-true, ltb-false}
use Rattle.std.specs.Prelude.{None}
use Rattle.block.specs.Layout.{process_count_in, room_in}
use Rattle.loan.specs.Loans.{loan_words}
use Rattle.wait_table.specs.Table.{wait_for}
use Rattle.embedding.specs.Sizes.{loan_size, wait_number}

and_false : (a : Bool) → (a && false) ≡ false
and_false true = refl
and_false false = refl

not_both : {A : Type 0} (a : Bool) (x y : A) → cond (a && false) x y ≡ y
not_both true x y = refl
not_both false x y = refl

pub many : (p w : ℕ) → 8 < p → 0 ≡ loan_size p w
unfolding loan_size
many p w h = rw (lt-leb p 8 h)

pub heavy : (p w : ℕ) → 32 < w → 0 ≡ loan_size p w
unfolding loan_size
heavy p w h = rw (lt-leb w 32 h) (sym (not_both (leb p 8) (3 * p * w) 0))

pub inside : (p w : ℕ) → p ≤ 8 → w ≤ 32 → 3 * p * w ≡ loan_size p w
unfolding loan_size
inside p w h k = rw (le-leb p 8 h, le-leb w 32 k)

-- the loan of the card in a block has the size of its p and w
pub loan_size_lem : (b : List ℕ) → process_count_in b ≤ 8 → loan_words b ≡ loan_size (process_count_in b) (room_in b)
loan_size_lem b h = inside (process_count_in b) (room_in b) h (omega arith)

-- a number past 255 is in no table, and neither is 255
wide : (p w : ℕ) → 8 < p → wait_for p w ≡ None
unfolding wait_for
wide p w h = rw (le-ltb p 9 (omega arith)) (not_both (ltb 0 p) _ _)

laden : (p w : ℕ) → 32 < w → wait_for p w ≡ None
unfolding wait_for
laden p w h = rw (le-ltb w 33 (omega arith), and_false (ltb p 9)) (not_both (ltb 0 p) _ _)

pub narrowed : (p w : ℕ) → wait_number (wait_for (min p 255) (min w 255)) ≡ wait_number (wait_for p w)
narrowed p w = go (ltb p 9) (ltb w 33) refl refl
  where
    go : (a b : Bool) → ltb p 9 ≡ a → ltb w 33 ≡ b → wait_number (wait_for (min p 255) (min w 255)) ≡ wait_number (wait_for p w)
    go true true e f =
        let hp : min p 255 ≡ p = omega (arith, ltb-true p 9 e) in
        let hw : min w 255 ≡ w = omega (arith, ltb-true w 33 f) in
        rw (hp, hw)
    go true false e f =
        let h : 33 ≤ w = ltb-false w 33 f in
        rw (laden p w (omega arith), laden (min p 255) (min w 255) (omega arith))
    go false b e f =
        let h : 9 ≤ p = ltb-false p 9 e in
        rw (wide p w (omega arith), wide (min p 255) (min w 255) (omega arith))
