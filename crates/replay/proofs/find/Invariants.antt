use Rattle.std.proofs.Common.{◌≡◌, ◌≤◌, drop}
use Rattle.replay.specs.Playing.{place_of}
use Rattle.replay.proofs.find.Given as goal

-- the byte was not there yet
abbrev pub invariant-loop-i : goal.invariant-loop-i
invariant-loop-i l = (place_of l.byte l.start (drop l.start l.text) ≡ place_of l.byte l.i (drop l.i l.text)) × (l.start ≤ l.i)
