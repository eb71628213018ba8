use Rattle.std.proofs.Common.{arith}
use Rattle.loan.proofs.Spans as spans
use Rattle.loan.proofs.dictionaries.item.Goals as goal

pub item_or-requires : goal.item_or-requires
item_or-requires c =
    let a = c.args in spans.span_fits a.b.now a.l.now a.i (omega arith) _ c.items_of.ensures
