use Rattle.embedding.proofs.Told.{told_none, told_access}
use Rattle.embedding.proofs.numbers.tell_report.Goals as goal

pub returns-then-row-eq0 : goal.returns-then-row-eq0
returns-then-row-eq0 c = told_none c.args.report _ _ c.label_row-row.ensures c.if-row-eq0.true

pub returns : goal.returns
returns c =
    told_access c.args.report _ _ c.label_row-row.ensures c.if-row-eq0.false c.put_name.ensures c.put_cell.ensures
    c.put_rest.ensures
