use Rattle.std.proofs.Common.{refl}
use Rattle.lent_steps.proofs.Telling as telling
use Rattle.lent_steps.proofs.tracing.trace.Goals as goal

pub returns-in-Err : goal.returns-in-Err
returns-in-Err c = telling.trace_refused _ _ _ c.in-Err.ensures refl c.no_report.ensures

pub returns : goal.returns
returns c =
    telling.trace_taken _ _ _ (c.in_default.ensures {u = tt}) refl c.narrow-i.ensures c.label_at-label.ensures
    c.cell_to-cell.ensures c.advance-swap.ensures.2 c.advance-swap.ensures.0 c.advance-swap.ensures.1
    c.last_gate.ensures c.mask.ensures c.report_with-report.ensures c.answer_in.ensures
