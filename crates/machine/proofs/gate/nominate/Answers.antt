use Rattle.std.proofs.Common.{◌∙◌}
use Rattle.construction.proofs.Equality.{gate_swap}
use Rattle.machine.proofs.gate.nominate.Goals as goal

pub returns : goal.returns
returns c = c.replace_cell.ensures ∙ rw (c.swap.ensures ∙ gate_swap c.args.cell c.args.last c.nominated-new.result, c.nominated-new.ensures, c.go_to.ensures)
