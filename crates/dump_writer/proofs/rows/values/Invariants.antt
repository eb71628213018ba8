use Rattle.std.proofs.Common.{◌-◌, ◌≡◌, replicate}
use lib.ListN as list
use Rattle.dump_writer.specs.Courses.{shown_from}
use Rattle.dump_writer.proofs.rows.values.Given as goal

abbrev pub invariant-loop-v : goal.invariant-loop-v
invariant-loop-v l =
    (shown_from l.gate l.announcement l.records l.count 0 (replicate 64 0) ≡ shown_from l.gate l.announcement
    l.records (l.count - l.v) l.v l.row) × (list.length l.row ≡ 64)
