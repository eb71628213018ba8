use Rattle.std.proofs.Common.{arith}
use Rattle.answers.proofs.Texts as laws
use Rattle.answers.proofs.put_number.Goals as goal

pub returns : goal.returns
returns c = laws.put_word_number _ _ (omega arith) (omega arith) c.put_word-next.ensures c.put_decimal.ensures
