use Rattle.loan.specs.Loans.{has_items}
use Rattle.loan.proofs.dictionaries.has_items.Goals as goal

pub returns : goal.returns
unfolding has_items
returns c = rw c.room-w.ensures
