use Rattle.std.proofs.Common.{length, ◌≡◌}
use Rattle.texts.proofs.Lines.{copied}
use Rattle.texts.proofs.copy.Given as goal

abbrev pub invariant-loop-k : goal.invariant-loop-k
invariant-loop-k l = (l.b ≡ copied l.initial.b l.start l.to l.k) × (length l.b ≡ length l.initial.b)
