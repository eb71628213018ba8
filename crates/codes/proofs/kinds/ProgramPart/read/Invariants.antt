use Rattle.std.proofs.Common.{length, take, ◌≡◌}
use Rattle.codes.proofs.Lines.{line_at}
use Rattle.codes.specs.Parts.{table}
use Rattle.codes.proofs.kinds.ProgramPart.read.Given as goal

abbrev pub invariant-loop-k : goal.invariant-loop-k
invariant-loop-k l = (take l.k l.lines ≡ table l.k (line_at l.b l.at)) × (length l.lines ≡ 32)
