use Rattle.std.proofs.Common.{arith, append-nil}
use Rattle.answers.proofs.Texts as laws
use Rattle.construction.specs.Answers.{answer_fields, numbers_text, fields_text}
use Rattle.answers.proofs.put_answer.Goals as goal

pub returns-in-Taken : goal.returns-in-Taken
unfolding fields_text answer_fields numbers_text
returns-in-Taken c = laws.put_as 132 c.put_word.ensures (omega arith) (rw (c.in-Taken.is))

pub returns-in-Run : goal.returns-in-Run
unfolding fields_text answer_fields numbers_text
returns-in-Run c = laws.put_as 132 c.put_word-in-Run.ensures (omega arith) (rw (c.in-Run.is))

pub returns-in-Exited : goal.returns-in-Exited
unfolding fields_text answer_fields numbers_text
returns-in-Exited c =
    laws.put_as_within 132 c.put_number.ensures (omega arith) (rw (c.in-Exited.is, append-nil))

pub returns-in-Value : goal.returns-in-Value
unfolding fields_text answer_fields numbers_text
returns-in-Value c =
    laws.put_as_within 132 c.put_number-in-Value.ensures (omega arith) (rw (c.in-Value.is, append-nil))

pub returns-in-Refused : goal.returns-in-Refused
unfolding answer_fields
returns-in-Refused c = laws.put_as_within 132 c.put_refusal.ensures (omega arith) (rw (c.in-Refused.is))

pub returns-in-RefusedAt : goal.returns-in-RefusedAt
unfolding answer_fields
returns-in-RefusedAt c = laws.put_as_within 132 c.put_refused_at.ensures (omega arith) (rw (c.in-RefusedAt.is))
