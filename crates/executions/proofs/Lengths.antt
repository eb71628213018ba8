-- How long a listing can get: with at most 3 processes, 3 to the power of the steps lines, and as many times the longest line bytes.
use Prim.Native.Nat.{ℕ, zero, suc, ◌+◌, ◌*◌, ◌^◌, ◌≤◌}
use mathlib.Core.List.{List, [], ◌∷◌}
use native.Mathlib.Omega.{arith}
use native.Mathlib.Nat.{suc-mul, pow-zero, pow-suc, one-le-pow}
use lib.ListN.{length, length-append, length-map}
use Rattle.construction.specs.declared.{card.Card.Card}
use Rattle.construction.specs.Answers.{is_refused}
use Rattle.construction.specs.Requests.{step}
use Rattle.executions.specs.Schedules.{Execution, preceded, is_quiet, branch, branches, listing}
use Rattle.executions.specs.Listings.{line_after, lines_after}
use Rattle.construction.proofs.Basics.{on_test}
use Rattle.executions.proofs.Executions.{All}
use Rattle.executions.proofs.Branches.{step_processes}

module _ (c : Card) (rest : Card → List Execution) (most : ℕ) (few : (i : ℕ) → length (rest (step c i).card) ≤ most) where
  branch_count : (k : ℕ) → length (branch k (step c k) rest) ≤ most
  branch_count k =
      on_test (λ (l : List Execution). length l ≤ most) (is_refused (step c k).answer) (λ _. omega arith)
      (λ _. omega (arith, few k, length-map (rest (step c k).card) (preceded k (step c k).answer)))

  none_count : (k : ℕ) → length (branches c rest 0 k) ≤ 0
  unfolding branches
  none_count k = omega arith

  more_count : (m k n : ℕ) → length (branches c rest m (suc k)) ≤ n → length (branches c rest (suc m) k) ≤ most + n
  unfolding branches
  more_count m k n h = omega (arith, branch_count k, length-append (branch k (step c k) rest) (branches c rest m (suc k)))

  three_count : (m : ℕ) → m ≤ 3 → length (branches c rest m 0) ≤ most + (most + most)
  three_count zero le = omega (arith, none_count 0)
  three_count (suc zero) le = omega (arith, more_count 0 0 0 (none_count 1))
  three_count (suc (suc zero)) le = omega (arith, more_count 1 0 _ (more_count 0 1 0 (none_count 2)))
  three_count (suc (suc (suc zero))) le = omega (arith, more_count 2 0 _ (more_count 1 1 _ (more_count 0 2 0 (none_count 3))))
  three_count (suc (suc (suc (suc m)))) le = absurd (omega arith)

pub listing_count : (n : ℕ) (c : Card) → c.process_count ≤ 3 → length (listing n c) ≤ 3 ^ n
unfolding listing
listing_count zero c p = omega (arith, pow-zero 3)
listing_count (suc n) c p =
    on_test (λ (l : List Execution). length l ≤ 3 ^ suc n) (is_quiet c c.process_count) (λ _. one-le-pow (suc n) 3 (omega arith))
    (λ _. let h : length (branches c (λ d. listing n d) c.process_count 0) ≤ 3 ^ suc n = omega (
      arith,
      pow-suc 3 n,
      three_count c (λ d. listing n d) (3 ^ n) (λ i. listing_count n (step c i).card (omega (arith, step_processes c i))) c.process_count p,
    ) in h)

pub lines_length :
    (x y : List ℕ) (longest : ℕ) (l : List Execution) → All (λ e. length (line_after x y e) ≤ longest) l → length (lines_after x y l) ≤ length l * longest
unfolding lines_after
lines_length x y longest [] h = omega arith
lines_length x y longest (e ∷ l) h =
    omega (arith, h.0, lines_length x y longest l h.1, length-append (line_after x y e) (lines_after x y l), suc-mul (length l) longest)
