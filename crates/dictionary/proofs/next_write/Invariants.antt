use Rattle.std.proofs.Common.{◌≡◌, ◌≤◌, max}
use Rattle.construction.specs.Dictionary.{next_write}
use Rattle.dictionary.proofs.next_write.Given as goal

abbrev pub invariant-loop-k : goal.invariant-loop-k
invariant-loop-k l = (next_write l.seq l.dictionary l.from ≡ next_write l.seq l.dictionary l.k) × (l.k ≤ max l.from l.end)
