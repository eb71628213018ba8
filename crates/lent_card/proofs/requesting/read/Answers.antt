use Rattle.std.proofs.Common.{not, ap}
use Rattle.lent_card.proofs.Judging as judging
use Rattle.lent_card.proofs.requesting.read.Goals as goal

pub returns-then-not-is_below : goal.returns-then-not-is_below
returns-then-not-is_below c =
    judging.read_refused _ _ c.variable_count.ensures c.is_below.ensures (ap not c.if-not-is_below.true)

pub returns : goal.returns
returns c =
    judging.read_shown _ _ c.variable_count.ensures c.is_below.ensures (ap not c.if-not-is_below.false) c.narrow.ensures
    c.value.ensures
