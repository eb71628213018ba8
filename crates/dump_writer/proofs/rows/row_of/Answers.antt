use Rattle.requests.proofs.Arrays as arrays
use Rattle.dump_writer.proofs.RowLaws as laws
use Rattle.dump_writer.proofs.rows.row_of.Goals as goal

pub returns : goal.returns
returns c =
    let a = c.args in
    laws.row_is a.card (arrays.full_arrays a.card _ c.well_formed.0).announcements _ c.holder_of-m.ensures _
    c.announcement_at.ensures _ c.values.ensures
