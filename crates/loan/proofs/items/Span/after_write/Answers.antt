use Rattle.loan.proofs.Held as held
use Rattle.loan.proofs.items.Span.after_write.Goals as goal

pub returns-then-k-self : goal.returns-then-k-self
returns-then-k-self c = held.writes_on _ _ _ c.requires.end _ _ _ c.next_write.ensures _ c.write_from.ensures

pub returns-else-k-self : goal.returns-else-k-self
returns-else-k-self c = held.writes_none _ _ _ c.requires.end _ _ c.if-k-self.false _ c.write_from-else-k-self.ensures
