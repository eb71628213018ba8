use Rattle.construction.specs.Machine.{access_gate}
use Rattle.machine.proofs.gate.access_gate.Goals as goal

pub returns-in-Read : goal.returns-in-Read
unfolding access_gate
returns-in-Read c = rw c.in-Read.is c.read_holder.ensures

pub returns-in-ReadLast : goal.returns-in-ReadLast
unfolding access_gate
returns-in-ReadLast c = rw c.in-ReadLast.is c.read_last.ensures

pub returns-in-Nominate : goal.returns-in-Nominate
unfolding access_gate
returns-in-Nominate c = rw c.in-Nominate.is c.nominate.ensures

pub returns-in-Release : goal.returns-in-Release
unfolding access_gate
returns-in-Release c = rw c.in-Release.is c.release.ensures
