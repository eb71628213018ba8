use Rattle.std.proofs.Common.{◌∙◌}
use Rattle.construction.proofs.Equality.{record_swap}
use Rattle.machine.proofs.record.write.Goals as goal

pub returns : goal.returns
returns c = c.swap.ensures ∙ (record_swap c.args.cell c.args.item.cell c.rewritten-new.result ∙ rw c.rewritten-new.ensures)
