use Rattle.std.proofs.Common.{arith}
use Rattle.loan.proofs.Spans as spans
use Rattle.loan.proofs.dictionaries.next_write.Goals as goal

pub next_write-requires : goal.next_write-requires
next_write-requires c =
    let a = c.args in spans.span_fits a.b.now a.l.now a.i (omega arith) _ c.items_of.ensures
