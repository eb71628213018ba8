use Rattle.std.proofs.Common.{◌-◌, min, ◌≡◌, length}
use Rattle.lent_session.specs.Altering.{drawn, drawn_last}
use Rattle.lent_session.proofs.altering.alter.Given as goal

abbrev pub invariant-loop-k : goal.invariant-loop-k
invariant-loop-k l =
    let n = min l.words (length l.initial.l) in
    (drawn n 0 l.x l.initial.l ≡ drawn (n - l.k) l.k l.drawn l.l) ×
    (drawn_last n l.x ≡ drawn_last (n - l.k) l.drawn) × (length l.l ≡ length l.initial.l)
