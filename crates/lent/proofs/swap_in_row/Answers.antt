use Rattle.std.proofs.Common.{◌∙◌, get_or}
use Rattle.construction.specs.Cells.{open_record}
use Rattle.construction.proofs.Equality.{record_swap}
use Rattle.lent.proofs.Laws as laws
use Rattle.lent.proofs.swap_in_row.Goals as goal

pub returns-then-row-place : goal.returns-then-row-place
returns-then-row-place c = laws.refused c.args.row.now c.args.place c.args.expected c.args.new c.if-row-place.true

pub returns : goal.returns
returns c =
    laws.swapped c.args.row.now c.args.place c.args.expected c.args.new _ c.if-row-place.false
    (c.swap-after.ensures ∙ record_swap (get_or c.args.row.now c.args.place (open_record 0)) c.args.expected c.args.new)
