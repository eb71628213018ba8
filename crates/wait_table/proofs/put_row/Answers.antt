use Rattle.std.proofs.Common.{◌+◌}
use Rattle.construction.proofs.Text.Writing as series
use Rattle.wait_table.proofs.Texts as laws
use Rattle.wait_table.proofs.put_row.Goals as goal

pub loop-weight-preserved : goal.loop-weight-preserved
loop-weight-preserved c =
    series.series_turn (laws.row_series (c.args.row + 1)) _ _ c.loop-weight-test.true c.loop-weight.invariant
    (cc (c.separator.ensures, c.entry.ensures)) c.put_field-i.ensures

pub returns : goal.returns
returns c =
    series.series_end (laws.row_series (c.args.row + 1)) _ _ c.loop-weight-test.false c.loop-weight.invariant
