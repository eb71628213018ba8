use Rattle.std.proofs.Common.{arith}
use Rattle.answers.proofs.Texts as laws
use Rattle.construction.specs.Answers.{verdict_fields, numbers_text, fields_text}
use Rattle.answers.proofs.put_verdict.Goals as goal

pub returns-in-Ok : goal.returns-in-Ok
unfolding fields_text verdict_fields numbers_text
returns-in-Ok c = laws.put_as 50 c.put_word.ensures (omega arith) (rw (c.in-Ok.is))

pub returns-in-Err : goal.returns-in-Err
unfolding verdict_fields
returns-in-Err c = rw (c.in-Err.is) c.put_refused_at.ensures
