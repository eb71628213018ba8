-- The pieces so far lead from the first stage to this one.
use Rattle.std.proofs.Common.{◌≡◌, length}
use Rattle.sweeping.specs.Pieces.{stage}
use Rattle.sweeping.proofs.Progressing.{PiecesTo}
use Rattle.sweep.proofs.sweep_all.Given as goal

abbrev pub invariant-loop-q : goal.invariant-loop-q
invariant-loop-q g l =
    PiecesTo l.calls (stage l.initial.b l.initial.l l.initial.q) (stage l.b l.l l.q) × (length l.b ≡ length l.initial.b) ×
    (length l.l ≡ length l.initial.l)

abbrev pub decreases-loop-q : goal.decreases-loop-q
decreases-loop-q g l = l.q.left
