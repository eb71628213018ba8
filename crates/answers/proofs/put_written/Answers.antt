use Rattle.std.proofs.Common.{arith, append-nil}
use Rattle.answers.proofs.Texts as laws
use Rattle.construction.specs.Answers.{written_fields, numbers_text, fields_text}
use Rattle.answers.proofs.put_written.Goals as goal

pub returns-in-Ok : goal.returns-in-Ok
unfolding fields_text written_fields numbers_text
returns-in-Ok c = laws.put_as_within 29 c.put_number.ensures (omega arith) (rw (c.in-Ok.is, append-nil))

pub returns-in-Err : goal.returns-in-Err
unfolding written_fields
returns-in-Err c = laws.put_as_within 29 c.put_refusal.ensures (omega arith) (rw (c.in-Err.is))
