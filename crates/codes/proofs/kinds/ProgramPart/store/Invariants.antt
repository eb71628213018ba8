use Rattle.std.proofs.Common.{◌≡◌}
use Rattle.codes.proofs.Lines.{put_lines}
use Rattle.codes.proofs.kinds.ProgramPart.store.Given as goal

abbrev pub invariant-loop-k : goal.invariant-loop-k
invariant-loop-k l = l.b ≡ put_lines l.initial.b l.at l.k l.self
