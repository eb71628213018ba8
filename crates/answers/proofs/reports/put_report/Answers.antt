use Rattle.std.proofs.Common.{arith}
use Rattle.answers.proofs.ReportTexts as laws
use Rattle.answers.proofs.reports.put_report.Goals as goal

pub returns-then-row-eq0 : goal.returns-then-row-eq0
returns-then-row-eq0 c = laws.put_none _ c.label_row-row.ensures c.if-row-eq0.true (omega arith)

pub returns : goal.returns
returns c =
    laws.put_report _ _ _ c.label_row-row.ensures c.if-row-eq0.false c.swap_byte.ensures (omega (arith, c.well_formed.0.0, c.ranges.at))
    c.put_label-i.ensures c.put_cell-j.ensures c.put_letter-k.ensures c.put_number-l.ensures c.put_number-m.ensures c.put_number.ensures
