use Rattle.std.proofs.Common.{refl}
use Rattle.construction.specs.Machine.{access_gate}
use Rattle.lent_machine.specs.Accesses.{gate_step}
use Rattle.lent_machine.proofs.gate.step_gate.Goals as goal

pub returns-in-Read : goal.returns-in-Read
unfolding gate_step access_gate
returns-in-Read c = rw c.in-Read.is (c.step_read.ensures, refl)

pub returns-in-ReadLast : goal.returns-in-ReadLast
unfolding gate_step access_gate
returns-in-ReadLast c = rw c.in-ReadLast.is (c.step_last.ensures, refl)
