use Rattle.std.proofs.Common.{◌≡◌, length, take}
use Rattle.block.specs.Layout.{opening_text}
use Rattle.codes.specs.Parts.{table}
use Rattle.lent_text.proofs.programs_of.Given as goal

abbrev pub invariant-loop-k : goal.invariant-loop-k
invariant-loop-k l =
    (take l.k l.programs ≡ table l.k (λ v. opening_text l.b v)) × (length l.programs ≡ 8)
