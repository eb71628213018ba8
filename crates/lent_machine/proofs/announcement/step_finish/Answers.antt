use Rattle.lent_machine.proofs.Finishing.{finish_in}
use Rattle.lent_machine.proofs.announcement.step_finish.Goals as goal

pub returns : goal.returns
returns c =
    finish_in _ _ _ _ (c.last_gate-gate.ensures) (c.holder_of-m.ensures) (c.simulation-s.ensures)
    (c.announcement.ensures) (c.last.ensures) (c.control.ensures) (c.finish-x.ensures) (c.put_swapped.ensures)
