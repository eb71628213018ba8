-- A piece fits the buffer: it has at most 243 lines of at most 2,129 bytes. And the line that tells how far a listing is, put into one.
use Prim.Native.Nat.{ℕ, zero, suc, ◌≤◌}
use mathlib.Core.Path.{◌≡◌, refl}
use mathlib.Core.List.{List}
use native.Mathlib.Omega.{arith}
use Rattle.grammar.specs.Writing.{decimal, Put}
use Rattle.grammar.proofs.Puts.{Room, rest_all, rest_step, rest_last}
use Rattle.construction.specs.Answers.{bytes}
use Rattle.listing.specs.Prefixes.{capacity}
use Rattle.schedules.specs.Progress.{progress_text}

capacity_least : (n w : ℕ) → w ≤ capacity n w
unfolding capacity
capacity_least zero w = omega arith
capacity_least (suc n) w = omega (arith, capacity_least n w)

capacity_grows : (m n w : ℕ) → m ≤ n → capacity m w ≤ capacity n w
unfolding capacity
capacity_grows zero n w h = capacity_least n w
capacity_grows (suc m) zero w h = absurd (omega arith)
capacity_grows (suc m) (suc n) w h = omega (arith, capacity_grows m n w (omega arith))

five : capacity 5 2129 ≡ 517347
unfolding capacity
five = refl

pub piece_fits : (n : ℕ) → n ≤ 5 → capacity n 2129 ≤ 517347
piece_fits n h = omega (arith, capacity_grows n 5 2129 h, five)

-- the line of the progress, put part by part
pub put_progress :
    (done pieces elapsed : ℕ) {b : List ℕ} {i j k l m n o : ℕ} {z₁ z₂ z₃ z₄ z₅ z₆ z₇ : List ℕ} → Room b 0 → Put b 0 (bytes "listed ") i z₁ →
    Put z₁ i (decimal done) j z₂ → Put z₂ j (bytes " of ") k z₃ → Put z₃ k (decimal pieces) l z₄ → Put z₄ l (bytes " beginnings of schedules, ") m z₅ →
    Put z₅ m (decimal elapsed) n z₆ → Put z₆ n (bytes " s\n") o z₇ → Put b 0 (progress_text done pieces elapsed) o z₇
unfolding progress_text
put_progress done pieces elapsed {b} h p q r s t u v =
    rest_last (rest_step (rest_step (rest_step (rest_step (rest_step (rest_step (rest_all b 0 (progress_text done pieces elapsed) h) p) q) r) s) t) u) v
