use Rattle.construction.specs.Machine.{access_gate}
use Rattle.lent_machine.specs.Accesses.{gate_step}
use Rattle.lent_machine.proofs.gate.step_nominate.Goals as goal

pub returns : goal.returns
unfolding gate_step access_gate
returns c = (
  rw (c.nominate-x.ensures, c.control.ensures, c.last_gate.ensures, c.gate.ensures) at c.put_swapped.ensures.0,
  rw (c.nominate-x.ensures, c.control.ensures, c.last_gate.ensures, c.gate.ensures) at c.put_swapped.ensures.1,
)
