use Rattle.std.proofs.Common.{◌∙◌}
use Rattle.construction.proofs.Equality.{announcement_swap}
use Rattle.machine.proofs.announcement.withdraw.Goals as goal

pub returns : goal.returns
returns c = c.replace_cell.ensures ∙ rw (c.swap.ensures ∙ announcement_swap c.args.cell c.args.last c.withdrawn-new.result, c.withdrawn-new.ensures, c.go_to.ensures)
