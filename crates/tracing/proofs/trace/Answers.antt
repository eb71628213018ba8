use Rattle.requests.proofs.Arrays as arrays
use Rattle.tracing.proofs.Laws as laws
use Rattle.tracing.proofs.trace.Goals as goal

pub returns : goal.returns
returns c =
    laws.trace_is _ _ (arrays.full_arrays c.args.card _ c.well_formed.0)
    (record {
      labelled = c.label_of-label.ensures;
      chosen = c.access_of-access.ensures;
      writes =
          c.writing-written.ensures;
      touches = c.cell_of-cell.ensures;
      process = c.announcement_in-m.ensures;
      variable
          = c.record_in-v.ensures;
      announced = c.announcement_at-announced.ensures;
      recorded =
          c.record_at-recorded.ensures;
      swaps = c.swap_of-swap.ensures;
    }) _ c.step-answered.ensures _
    c.told-report.ensures
