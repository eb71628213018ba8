use Rattle.std.proofs.Common.{arith}
use Rattle.loan.proofs.Spans as spans
use Rattle.loan.proofs.dictionaries.writing.Goals as goal

pub item_or-requires : goal.item_or-requires
item_or-requires c =
    let a = c.args in spans.span_fits a.b.now a.l.now a.i (omega arith) _ c.items_of-span.ensures

pub after_write-requires : goal.after_write-requires
after_write-requires c =
    let a = c.args in spans.span_fits a.b.now a.l.now a.i (omega arith) _ c.items_of-span.ensures

pub returns : goal.returns
returns c =
    let a = c.args in
    spans.writing_of a.b.now a.l.now a.i _ c.items_of-span.ensures _ _ _ _ c.item_or.ensures c.after_write.ensures
