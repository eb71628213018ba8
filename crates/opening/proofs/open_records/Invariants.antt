use Rattle.std.proofs.Common.{length, take, map, ◌≡◌}
use Rattle.construction.specs.Cells.{open_record}
use Rattle.opening.proofs.open_records.Given as goal

abbrev pub invariant-loop-k : goal.invariant-loop-k
invariant-loop-k l = (take l.k l.records ≡ map open_record (take l.k l.starts)) × (length l.records ≡ 64)
