use Rattle.std.proofs.Common.{sym, ◌∙◌}
use Rattle.loan.proofs.Held as held
use Rattle.loan.proofs.items.Span.item_or.Goals as goal

pub returns-then-k-self : goal.returns-then-k-self
returns-then-k-self c = c.read.ensures ∙ sym (held.item_is _ _ _ _ c.if-k-self.true)

pub returns-else-k-self : goal.returns-else-k-self
returns-else-k-self c = c.no_item.ensures ∙ held.item_past _ _ _ _ c.if-k-self.false
