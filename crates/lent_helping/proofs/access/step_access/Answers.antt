use Rattle.std.proofs.Common.{refl}
use Rattle.lent_helping.specs.Steps.{access_block, access_loan, access_swap}
use Rattle.lent_helping.proofs.access.step_access.Goals as goal

pub returns-in-None : goal.returns-in-None
unfolding access_block access_loan access_swap
returns-in-None c = rw (c.in-None.is) (refl, refl, refl)

pub returns-in-Gate : goal.returns-in-Gate
unfolding access_block access_loan access_swap
returns-in-Gate c = rw (c.in-Gate.is) (c.step_gate.ensures.0, refl, c.step_gate.ensures.1)

pub returns-in-Announcement : goal.returns-in-Announcement
unfolding access_block access_loan access_swap
returns-in-Announcement c =
    rw (c.in-Announcement.is) (c.step_announcement.ensures.0, refl, c.step_announcement.ensures.1)

pub returns-in-Help : goal.returns-in-Help
unfolding access_block access_loan access_swap
returns-in-Help c = rw (c.in-Help.is) (c.step_help.ensures, refl, refl)

pub returns-in-Note : goal.returns-in-Note
unfolding access_block access_loan access_swap
returns-in-Note c = rw (c.in-Note.is) (c.step_note.ensures.0, c.step_note.ensures.1, refl)

pub returns-in-Write : goal.returns-in-Write
unfolding access_block access_loan access_swap
returns-in-Write c = rw (c.in-Write.is) (c.step_write.ensures.0, refl, c.step_write.ensures.1)
