-- The weight of a program's instructions before a place, and the weight of a card.
use Prim.Native.Nat.{ℕ, zero, suc, ◌+◌, ◌≤◌, ◌<◌}
use mathlib.Core.Path.{◌≡◌, refl}
use mathlib.Core.List.{List, [], ◌∷◌}
use native.Mathlib.Omega.{arith}
use native.Mathlib.Nat.{eq-or-lt_of_le, le_of_eq, le_trans, le-max_left, le-max_right, max-le}
use mathlib.Core.Logic.{⊎_elim, ◌⊎◌, inl, inr}
use lib.ListN.{get_or}
use Rattle.construction.specs.Types.{Instruction, Program, Contents}
use Rattle.construction.specs.Instructions.{fetch, shortened, no_program}
use Rattle.construction.specs.Weight.{weight_of, weight_before, weight, heaviest, card_weight}

-- an instruction touches at most two variables
weight_two : (i : Instruction) → weight_of i ≤ 2
weight_two Instruction.Stop = omega arith
weight_two (Instruction.Input a b) = omega arith
weight_two (Instruction.Constant a b) = omega arith
weight_two (Instruction.Load a v) = omega arith
weight_two (Instruction.Store v b) = omega arith
weight_two (Instruction.LoadAt a b) = omega arith
weight_two (Instruction.StoreAt a b) = omega arith
weight_two (Instruction.Add a b) = omega arith
weight_two (Instruction.Subtract a b) = omega arith
weight_two (Instruction.SkipEqual a b c) = omega arith
weight_two (Instruction.SkipLess a b c) = omega arith
weight_two (Instruction.Output a b) = omega arith
weight_two (Instruction.Allocate a) = omega arith
weight_two (Instruction.Free a) = omega arith

-- a shorter skip weighs the same
pub weight_shortened : (left : ℕ) (i : Instruction) → weight_of (shortened left i) ≡ weight_of i
weight_shortened left Instruction.Stop = refl
weight_shortened left (Instruction.Input a b) = refl
weight_shortened left (Instruction.Constant a b) = refl
weight_shortened left (Instruction.Load a v) = refl
weight_shortened left (Instruction.Store v b) = refl
weight_shortened left (Instruction.LoadAt a b) = refl
weight_shortened left (Instruction.StoreAt a b) = refl
weight_shortened left (Instruction.Add a b) = refl
weight_shortened left (Instruction.Subtract a b) = refl
weight_shortened left (Instruction.SkipEqual a b c) = refl
weight_shortened left (Instruction.SkipLess a b c) = refl
weight_shortened left (Instruction.Output a b) = refl
weight_shortened left (Instruction.Allocate a) = refl
weight_shortened left (Instruction.Free a) = refl

-- no more than twice the places, and no less at a later place
pub weight_places : (program : Program) (k : ℕ) → weight_before program k ≤ k + k
unfolding weight_before
weight_places program zero = omega arith
weight_places program (suc k) = omega (arith, weight_places program k, weight_two (fetch program k))

pub weight_later : (program : Program) (j k : ℕ) → j ≤ k → weight_before program j ≤ weight_before program k
unfolding weight_before
weight_later program j zero h = let e : j ≡ 0 = omega arith in rw e (omega arith)
weight_later program j (suc k) h =
    ⊎_elim (λ (e : j ≡ suc k). rw e (omega arith)) (λ l. omega (arith, weight_later program j k (omega arith))) (eq-or-lt_of_le h)

-- past an instruction
pub weight_suc : (program : Program) (k : ℕ) → weight_before program (suc k) ≡ weight_before program k + weight_of (fetch program k)
unfolding weight_before
weight_suc program k = refl

-- no program of a card weighs more than the card
pub weight_none : weight no_program ≡ 0
unfolding weight_before fetch
weight_none = refl

heaviest_at : (l : List Program) (k : ℕ) → weight (get_or l k no_program) ≤ heaviest l
unfolding heaviest
heaviest_at [] k = le_of_eq weight_none
heaviest_at (x ∷ l) zero = le-max_left (weight x) (heaviest l)
heaviest_at (x ∷ l) (suc k) = le_trans (heaviest_at l k) (le-max_right (weight x) (heaviest l))

-- and where the heaviest weighs something, one of them does
pub heaviest_some :
    {Q : Type 0} (l : List Program) → ((k : ℕ) → 0 < weight (get_or l k no_program) → Q) → 0 < heaviest l → Q
unfolding heaviest
heaviest_some [] f h = absurd (omega arith)
heaviest_some (x ∷ l) f h =
    ⊎_elim
    (λ (e : weight x ≡ 0). heaviest_some l (λ k. f (suc k))
    (omega (arith, max-le {a = weight x} {b = heaviest l} {k = heaviest l} (omega arith) (omega arith))))
    (λ z. f 0 z) (zero_or_more (weight x))
  where
    zero_or_more : (n : ℕ) → (n ≡ 0) ⊎ (0 < n)
    zero_or_more zero = inl refl
    zero_or_more (suc n) = inr (omega arith)

pub weight_card : (t : Contents) (k : ℕ) → weight (get_or t.programs k no_program) ≤ card_weight t
weight_card t k = heaviest_at t.programs k
