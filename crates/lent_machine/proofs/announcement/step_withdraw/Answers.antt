use Rattle.construction.specs.Machine.{access_announcement}
use Rattle.lent_machine.proofs.announcement.step_withdraw.Goals as goal

pub returns : goal.returns
unfolding access_announcement
returns c = (
  rw (c.withdraw-x.ensures, c.control.ensures, c.last.ensures, c.operation.ensures, c.announcement.ensures) at
      c.put_swapped.ensures.0,
  rw (c.withdraw-x.ensures, c.last.ensures, c.operation.ensures, c.announcement.ensures) at c.put_swapped.ensures.1,
)
