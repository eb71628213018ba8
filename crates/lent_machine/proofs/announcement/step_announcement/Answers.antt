use Rattle.std.proofs.Common.{refl}
use Rattle.construction.specs.Machine.{access_announcement}
use Rattle.lent_machine.specs.Accesses.{announcement_step}
use Rattle.lent_machine.proofs.announcement.step_announcement.Goals as goal

pub returns-in-Announce : goal.returns-in-Announce
unfolding announcement_step access_announcement
returns-in-Announce c = rw c.in-Announce.is (c.step_announce.ensures, refl)

pub returns-in-Withdraw : goal.returns-in-Withdraw
unfolding announcement_step access_announcement
returns-in-Withdraw c = rw c.in-Withdraw.is (c.step_withdraw.ensures)

pub returns-in-ReadOwn : goal.returns-in-ReadOwn
unfolding announcement_step access_announcement
returns-in-ReadOwn c = rw c.in-ReadOwn.is (c.step_flag.ensures, refl)

pub returns-in-ReadFirst : goal.returns-in-ReadFirst
unfolding announcement_step access_announcement
returns-in-ReadFirst c = rw (c.in-ReadFirst.is, ← c.first-m.ensures) (c.step_flag-in-ReadFirst.ensures, refl)

pub returns-in-Finish : goal.returns-in-Finish
unfolding announcement_step access_announcement
returns-in-Finish c = rw c.in-Finish.is (c.step_finish.ensures)
