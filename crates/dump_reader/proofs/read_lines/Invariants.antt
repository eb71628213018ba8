use Rattle.std.proofs.Common.{length, ◌-◌, ◌≤◌, ◌≡◌}
use Rattle.dump.proofs.Trails.{print_loop}
use Rattle.dump.specs.Reading.{lines_from}
use Rattle.dump_reader.proofs.read_lines.Given as goal

abbrev pub invariant-loop-at : goal.invariant-loop-at
invariant-loop-at l =
    (lines_from l.step l.text l.count (length l.text)
    (print_loop l.initial.at l.initial.number l.initial.time l.initial.next l.initial.values l.initial.shown) ≡
    lines_from l.step l.text l.count (length l.text - l.at)
    (print_loop l.at l.number l.time l.next l.values l.shown)) × (l.number ≤ l.at)

abbrev pub decreases-loop-at : goal.decreases-loop-at
decreases-loop-at l = length l.text - l.at
