use Rattle.std.proofs.Common.{◌≡◌, length, take}
use Rattle.block.specs.Layout.{start_in}
use Rattle.codes.specs.Parts.{table}
use Rattle.lent_text.proofs.starts_of.Given as goal

abbrev pub invariant-loop-k : goal.invariant-loop-k
invariant-loop-k l = (take l.k l.starts ≡ table l.k (λ v. start_in l.b v)) × (length l.starts ≡ 64)
