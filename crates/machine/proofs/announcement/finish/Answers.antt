use Rattle.std.proofs.Common.{◌∙◌}
use Rattle.construction.proofs.Equality.{announcement_swap}
use Rattle.machine.proofs.announcement.finish.Goals as goal

pub returns : goal.returns
returns c = c.replace_cell.ensures ∙ rw (c.swap.ensures ∙ announcement_swap c.args.cell c.flagged-expected.result c.finished-new.result, c.flagged-expected.ensures, c.finished-new.ensures, c.go_to.ensures)
