use Rattle.loan.proofs.Spans as spans
use Rattle.loan.proofs.dictionaries.insert.Goals as goal

pub returns-then-end-w : goal.returns-then-end-w
returns-then-end-w c =
    let a = c.args in
    spans.inserts a.b.now a.l.now a.i _ _ c.has_items.ensures c.if-has_items.true _ c.noted-end.ensures _
    c.room-w.ensures c.if-end-w.true _ c.store.ensures _ c.put_noted.ensures

pub returns-else-end-w : goal.returns-else-end-w
returns-else-end-w c =
    let a = c.args in
    spans.full a.b.now a.l.now a.i _ _ c.has_items.ensures _ c.noted-end.ensures _ c.room-w.ensures c.if-end-w.false

pub returns-else-has_items : goal.returns-else-has_items
returns-else-has_items c =
    let a = c.args in spans.too_short a.b.now a.l.now a.i _ _ c.has_items.ensures c.if-has_items.false
