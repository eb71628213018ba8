use Rattle.sweeping.specs.Pieces.{stage}
use Rattle.sweeping.proofs.Progressing.{PiecesTo}
use Rattle.sweep_speed.proofs.sweep.Given as goal

-- the pieces so far
abbrev pub invariant-loop-q : goal.invariant-loop-q
invariant-loop-q l = PiecesTo l.calls (stage l.initial.b l.initial.l l.initial.q) (stage l.b l.l l.q)

abbrev pub decreases-loop-q : goal.decreases-loop-q
decreases-loop-q l = l.q.left
