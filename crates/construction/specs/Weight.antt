-- The weight of a program: how many records its instructions can touch for the first time, reached or not (codes 3 to 6 count 1, codes 13
-- and 14 count 2).
use Rattle.std.specs.Prelude.{ℕ, zero, suc, ◌+◌, max, List, [], ◌∷◌}
use Rattle.construction.specs.Types.{Instruction, Program, Contents}
use Rattle.construction.specs.Instructions.{fetch}

abbrev pub weight_of : Instruction → ℕ
weight_of Instruction.Stop = 0
weight_of (Instruction.Input a b) = 0
weight_of (Instruction.Constant a b) = 0
weight_of (Instruction.Load a v) = 1
weight_of (Instruction.Store v b) = 1
weight_of (Instruction.LoadAt a b) = 1
weight_of (Instruction.StoreAt a b) = 1
weight_of (Instruction.Add a b) = 0
weight_of (Instruction.Subtract a b) = 0
weight_of (Instruction.SkipEqual a b c) = 0
weight_of (Instruction.SkipLess a b c) = 0
weight_of (Instruction.Output a b) = 0
weight_of (Instruction.Allocate a) = 2
weight_of (Instruction.Free a) = 2

-- the weight of the instructions before place k, and of all
unfoldable pub weight_before : Program → ℕ → ℕ
weight_before program zero = 0
weight_before program (suc k) = weight_before program k + weight_of (fetch program k)

abbrev pub weight : Program → ℕ
weight program = weight_before program 32

-- the weight of a card (document 02, order 3: w): the largest over its programs; a place without a program weighs 0
unfoldable pub heaviest : List Program → ℕ
heaviest [] = 0
heaviest (x ∷ l) = max (weight x) (heaviest l)

abbrev pub card_weight : Contents → ℕ
card_weight t = heaviest t.programs
