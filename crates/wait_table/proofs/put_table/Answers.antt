use Rattle.std.proofs.Common.{ℕ, ap, add-one}
use Rattle.construction.proofs.Text.Writing as series
use Rattle.wait_table.specs.Table.{row_text}
use Rattle.wait_table.proofs.Texts as laws
use Rattle.wait_table.proofs.put_table.Goals as goal

pub loop-row-preserved : goal.loop-row-preserved
loop-row-preserved c =
    series.series_turn laws.rows_series 8 _ c.loop-row-test.true c.loop-row.invariant
    (ap (λ (p : ℕ). row_text p 33 0) (add-one c.loop-row.row)) c.put_row-i.ensures

pub returns : goal.returns
returns c = series.series_end laws.rows_series 8 _ c.loop-row-test.false c.loop-row.invariant
