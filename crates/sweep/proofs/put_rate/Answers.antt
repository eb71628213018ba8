use Rattle.std.proofs.Common.{arith}
use Rattle.sweep.proofs.Laws as laws
use Rattle.sweep.proofs.put_rate.Goals as goal

pub returns : goal.returns
returns c = laws.put_rate c.args.rate c.args.left (omega arith) c.put_decimal-i.ensures c.put_word-j.ensures c.quotient.ensures c.put_decimal-k.ensures c.put_word.ensures
