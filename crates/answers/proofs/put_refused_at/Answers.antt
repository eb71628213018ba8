use Rattle.std.proofs.Common.{arith}
use Rattle.answers.proofs.Texts as laws
use Rattle.answers.proofs.put_refused_at.Goals as goal

pub returns : goal.returns
returns c = laws.put_refused_at _ _ (omega arith) c.put_refusal-next.ensures c.put_number.ensures
