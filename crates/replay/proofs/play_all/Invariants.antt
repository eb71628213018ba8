use Rattle.std.proofs.Common.{◌-◌, ◌≤◌, length}
use Rattle.replay.proofs.play_all.Given as goal

-- the card text lies in the input
abbrev pub invariant-loop-at : goal.invariant-loop-at
invariant-loop-at g l = (l.card_start ≤ l.card_end) × (l.card_end ≤ length l.input)

abbrev pub decreases-loop-at : goal.decreases-loop-at
decreases-loop-at g l = length l.input - l.at
