use Rattle.std.proofs.Common.{◌≡◌, length}
use Rattle.lent_text.specs.Opened.{put_programs}
use Rattle.lent_text.proofs.put_programs.Given as goal

abbrev pub invariant-loop-k : goal.invariant-loop-k
invariant-loop-k l = (l.b ≡ put_programs l.k l.initial.b l.programs) × (length l.b ≡ length l.initial.b)
