use Rattle.std.proofs.Common.{◌-◌, ◌≡◌}
use lib.ListN as list
use Rattle.dump.specs.Reading.{line_at}
use Rattle.dump_reader.proofs.RowLaws as laws
use Rattle.dump_reader.proofs.rows.put_rows.Given as goal

abbrev pub invariant-loop-line : goal.invariant-loop-line
invariant-loop-line l =
    laws.Rowing l.text l.count
    (record { at = l.initial.at; time = l.initial.time; values = l.initial.values }) l.initial.buffer
    (record { at = l.at; time = l.time; values = l.values }) l.length l.buffer ×
    (l.line ≡ line_at l.text l.at)

abbrev pub decreases-loop-line : goal.decreases-loop-line
decreases-loop-line l = list.length l.text - l.at
