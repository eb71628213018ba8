use Rattle.std.proofs.Common.{◌≡◌, length}
use Rattle.lent_text.specs.Opened.{put_values}
use Rattle.lent_text.proofs.put_values.Given as goal

abbrev pub invariant-loop-k : goal.invariant-loop-k
invariant-loop-k l = (l.b ≡ put_values l.k l.initial.b l.starts) × (length l.b ≡ length l.initial.b)
