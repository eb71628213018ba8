use Rattle.std.proofs.Common.{arith}
use Rattle.answers.proofs.Texts as laws
use Rattle.construction.specs.Answers.{row_fields, numbers_text, fields_text}
use Rattle.answers.proofs.put_row_swap.Goals as goal

pub returns-in-Ok-true : goal.returns-in-Ok-true
unfolding fields_text row_fields numbers_text
returns-in-Ok-true c = laws.put_as 29 c.put_word.ensures (omega arith) (rw (c.in-Ok-true.is, c.in-Ok-true.field-0-test))

pub returns-in-Ok-false : goal.returns-in-Ok-false
unfolding fields_text row_fields numbers_text
returns-in-Ok-false c = laws.put_as 29 c.put_word-in-Ok-false.ensures (omega arith) (rw (c.in-Ok-false.is, c.in-Ok-false.field-0-test))

pub returns-in-Err : goal.returns-in-Err
unfolding row_fields
returns-in-Err c = laws.put_as_within 29 c.put_refusal.ensures (omega arith) (rw (c.in-Err.is))
