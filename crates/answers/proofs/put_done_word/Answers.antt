use Rattle.std.proofs.Common.{arith}
use Rattle.answers.proofs.Texts as laws
use Rattle.answers.proofs.put_done_word.Goals as goal

pub returns-then-fault : goal.returns-then-fault
returns-then-fault c = laws.put_as 6 c.put_word.ensures (omega arith) (rw c.if-fault.true)

pub returns : goal.returns
returns c = laws.put_as 6 c.put_word-2.ensures (omega arith) (rw c.if-fault.false)
