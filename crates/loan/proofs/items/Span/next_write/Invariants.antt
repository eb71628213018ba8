use Rattle.std.proofs.Common.{◌≤◌, ◌≡◌, max}
use Rattle.block.specs.Cards.{dictionary_at}
use Rattle.construction.specs.Dictionary.{next_write}
use Rattle.loan.proofs.items.Span.next_write.Given as goal

abbrev pub invariant-loop-k : goal.invariant-loop-k
invariant-loop-k l =
    (next_write l.seq (dictionary_at l.l l.self.base l.self.end) l.from ≡ next_write l.seq (dictionary_at l.l l.self.base l.self.end) l.k) × (l.k ≤ max l.from l.self.end)
