-- No line ended before the place reached.
use Rattle.std.proofs.Common.{◌≡◌, ◌≤◌, max, length, drop}
use Rattle.commands.specs.Commands.{line_end}
use Rattle.commands.proofs.reading.line_end.Given as goal

abbrev pub invariant-loop-i : goal.invariant-loop-i
invariant-loop-i l = (line_end l.at (drop l.at l.calls) ≡ line_end l.i (drop l.i l.calls)) × (l.i ≤ max l.at (length l.calls))
