use Rattle.std.proofs.Common.{arith, append-nil}
use Rattle.answers.proofs.Texts as laws
use Rattle.construction.specs.Answers.{numbers_text, fields_text}
use Rattle.answers.proofs.put_refusal.Goals as goal

pub returns : goal.returns
unfolding fields_text numbers_text
returns c = laws.put_as_within 29 c.put_number.ensures (omega arith) (rw (append-nil, c.number_of.ensures))
