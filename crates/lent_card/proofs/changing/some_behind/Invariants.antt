use Rattle.std.proofs.Common.{◌≡◌}
use Rattle.lent_card.specs.Requests.{behind_in}
use Rattle.lent_card.proofs.changing.some_behind.Given as goal

abbrev pub invariant-loop-i : goal.invariant-loop-i
invariant-loop-i l = l.behind ≡ behind_in l.b l.number l.i
