use Rattle.construction.specs.Machine.{access_announcement}
use Rattle.machine.proofs.announcement.access_announcement.Goals as goal

pub returns-in-Announce : goal.returns-in-Announce
unfolding access_announcement
returns-in-Announce c = rw c.in-Announce.is c.announce.ensures

pub returns-in-Withdraw : goal.returns-in-Withdraw
unfolding access_announcement
returns-in-Withdraw c = rw c.in-Withdraw.is c.withdraw.ensures

pub returns-in-ReadOwn : goal.returns-in-ReadOwn
unfolding access_announcement
returns-in-ReadOwn c = rw c.in-ReadOwn.is c.read_flag.ensures

pub returns-in-ReadFirst : goal.returns-in-ReadFirst
unfolding access_announcement
returns-in-ReadFirst c = rw c.in-ReadFirst.is c.read_flag-in-ReadFirst.ensures

pub returns-in-Finish : goal.returns-in-Finish
unfolding access_announcement
returns-in-Finish c = rw c.in-Finish.is c.finish.ensures
