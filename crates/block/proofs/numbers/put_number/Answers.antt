use Rattle.std.proofs.Common.{◌∙◌}
use Rattle.block.proofs.Rooms.{put_number_row}
use Rattle.block.proofs.numbers.put_number.Goals as goal

pub returns : goal.returns
returns c = c.put_row.ensures ∙ put_number_row c.args.b.now c.args.base c.args.n c.args.i c.args.value
