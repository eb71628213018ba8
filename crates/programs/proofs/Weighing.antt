-- The weight of a program and of a card, instruction by instruction and program by program
use Prim.Native.Nat.{ℕ, suc, ◌+◌, ◌-◌, ◌<◌, ◌≤◌, max}
use mathlib.Core.List.{List}
use mathlib.Core.Path.{◌≡◌, ap, ◌∙◌}
use native.Mathlib.Omega.{arith}
use native.Mathlib.Numerals.{add-one}
use lib.ListN.{length, get_or, drop, drop_of_length-le}
use lib.Seq.{drop-cons}
use borrow.Author.Tests.{lt-ltb}
use Rattle.construction.specs.declared.{programs.Instruction.Instruction, programs.Program.Program}
use Rattle.construction.specs.Instructions.{no_line, fetch}
use Rattle.construction.specs.Weight.{weight_of, weight_before, weight, heaviest}
use Rattle.construction.proofs.Simulating.Weights.{weight_places}
use Rattle.programs.specs.Fetching.{instruction_at}

-- one instruction more
module _ (program : Program) (k : ℕ) {total : ℕ} (so_far : total ≡ weight_before program k) where
  pub weight_turn :
      {x : Instruction} {w : ℕ} → k < 32 → x ≡ instruction_at program.length k (get_or program.lines k no_line) → w ≡ weight_of x →
      total + w ≡ weight_before program (k + 1)
  unfolding weight_before instruction_at fetch
  weight_turn h e f = rw (f, e, add-one, so_far, lt-ltb k 32 h)

-- one program more, from the last to the first
module _ (code : List Program) (k : ℕ) (d : Program) {most one : ℕ} (so_far : most ≡ heaviest (drop k code)) (p : 0 < k) (h : k ≤ length code)
    (e : one ≡ weight (get_or code (k - 1) d)) where
  heavier : heaviest (drop (k - 1) code) ≡ max one most
  unfolding heaviest
  heavier =
      let z : suc (k - 1) ≡ k = omega arith in
      ap heaviest (drop-cons code (k - 1) d (omega arith))
      ∙ (ap (λ (n : ℕ). max (weight (get_or code (k - 1) d)) (heaviest (drop n code))) z ∙ cc)

  pub heavier_more : most < one → one ≡ heaviest (drop (k - 1) code)
  heavier_more l = omega (arith, heavier)

  pub heavier_less : one ≤ most → most ≡ heaviest (drop (k - 1) code)
  heavier_less l = omega (arith, heavier)

pub none_left : (code : List Program) (k : ℕ) → length code ≤ k → 0 ≡ heaviest (drop k code)
unfolding heaviest
none_left code k h = rw (drop_of_length-le code h)

-- a weight fits a byte
pub room : (program : Program) (k : ℕ) → k < 32 → weight_before program (k + 1) ≤ 64
room program k h = omega (arith, weight_places program (k + 1))
