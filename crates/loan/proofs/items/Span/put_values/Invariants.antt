use Rattle.std.proofs.Common.{ℕ, ◌<◌, ◌≡◌, length, get_or}
use Rattle.loan.specs.Items.{put_values}
use Rattle.loan.proofs.items.Span.put_values.Given as goal

abbrev pub invariant-loop-k : goal.invariant-loop-k
invariant-loop-k l =
    (l.l ≡ put_values l.initial.l l.self.base l.k l.values) × (length l.l ≡ length l.initial.l) ×
    ((j : ℕ) → j < l.k → get_or l.values j 0 < 4294967296)
