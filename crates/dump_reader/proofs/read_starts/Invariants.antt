use Rattle.std.proofs.Common.{◌-◌, ◌+◌, ◌≤◌, ◌≡◌}
use Rattle.dump.proofs.Trails.{print_loop}
use Rattle.dump.specs.Reading.{starts_from}
use Rattle.dump_reader.proofs.read_starts.Given as goal

abbrev pub invariant-loop-next : goal.invariant-loop-next
invariant-loop-next l =
    (starts_from l.step l.text l.count
    (print_loop l.initial.at l.initial.number l.time 0 l.initial.values l.initial.shown) ≡
    starts_from l.step l.text (l.count - l.next) (print_loop l.at l.number l.time l.next l.values l.shown)) ×
    (l.number ≤ l.initial.number + l.next)
