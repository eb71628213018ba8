use Rattle.construction.specs.Machine.{access_of}
use Rattle.machine.proofs.places.top.Goals as goal

pub returns-then-exit : goal.returns-then-exit
unfolding access_of
returns-then-exit c = rw c.if-exit.true

pub returns : goal.returns
unfolding access_of
returns c = rw c.if-exit.false c.read_gate.ensures
