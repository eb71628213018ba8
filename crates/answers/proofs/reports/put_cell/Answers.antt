use Rattle.std.proofs.Common.{arith}
use Rattle.construction.specs.Reports.{cell_text}
use Rattle.answers.proofs.Texts as laws
use Rattle.answers.proofs.reports.put_cell.Goals as goal

pub returns-in-None : goal.returns-in-None
unfolding cell_text
returns-in-None c = laws.put_as_within 22 c.put_letter.ensures (omega arith) (rw c.in-None.is)

pub returns-in-Gate : goal.returns-in-Gate
unfolding cell_text
returns-in-Gate c = laws.put_as_within 22 c.put_letter-in-Gate.ensures (omega arith) (rw c.in-Gate.is)

pub returns-in-Announcement : goal.returns-in-Announcement
unfolding cell_text
returns-in-Announcement c = laws.put_as_within 22 c.put_number.ensures (omega arith) (rw c.in-Announcement.is)

pub returns-in-Record : goal.returns-in-Record
unfolding cell_text
returns-in-Record c =
    laws.put_as_within 22 c.put_number-in-Record.ensures (omega arith) (rw c.in-Record.is)
