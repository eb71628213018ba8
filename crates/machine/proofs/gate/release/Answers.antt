use Rattle.std.proofs.Common.{◌∙◌}
use Rattle.construction.proofs.Equality.{gate_swap}
use Rattle.machine.proofs.gate.release.Goals as goal

pub returns : goal.returns
returns c = c.replace_cell.ensures ∙ rw (c.swap.ensures ∙ gate_swap c.args.cell c.args.last c.released-new.result, c.released-new.ensures, c.go_to.ensures)
