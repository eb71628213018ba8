use Rattle.std.proofs.Common.{arith}
use Rattle.answers.proofs.ReportTexts as laws
use Rattle.answers.proofs.reports.put_label.Goals as goal

pub returns : goal.returns
returns c =
    laws.put_label c.args.label _ c.label_row-row.ensures (omega arith) (omega arith) c.put_letter-next.ensures
    c.put_decimal.ensures
