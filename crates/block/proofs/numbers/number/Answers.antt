use Rattle.std.proofs.Common.{◌∙◌}
use Rattle.block.proofs.Rooms.{number_row}
use Rattle.block.proofs.numbers.number.Goals as goal

pub returns : goal.returns
returns c = c.row_at.ensures ∙ number_row c.args.b.now c.args.base c.args.n c.args.i
