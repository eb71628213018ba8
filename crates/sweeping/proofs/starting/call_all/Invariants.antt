use Rattle.std.proofs.Common.{◌≡◌, length}
use Rattle.sweeping.proofs.CallsMade.{CalledTo}
use Rattle.sweeping.proofs.starting.call_all.Given as goal

abbrev pub invariant-loop-i : goal.invariant-loop-i
invariant-loop-i l =
    CalledTo l.calls l.initial.b l.count l.b l.i × (l.buffer ≡ l.initial.buffer) × (length l.b ≡ length l.initial.b)
