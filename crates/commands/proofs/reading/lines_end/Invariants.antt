use Rattle.std.proofs.Common.{◌≡◌, ◌-◌}
use Rattle.commands.specs.Commands.{lines_end}
use Rattle.commands.proofs.reading.lines_end.Given as goal

abbrev pub invariant-loop : goal.invariant-loop
invariant-loop l = lines_end l.count l.at l.calls ≡ lines_end (l.count - l.counter) l.end l.calls
