use Rattle.std.proofs.Common.{◌≡◌, drop}
use Rattle.lent_session.specs.Altering.{kept}
use Rattle.lent_session.proofs.altering.is_kept.Given as goal

abbrev pub invariant-loop-k : goal.invariant-loop-k
invariant-loop-k l = kept (drop l.start l.l) ≡ kept (drop l.k l.l)
