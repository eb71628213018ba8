use Rattle.std.proofs.Common.{arith}
use Rattle.sweep.proofs.Laws as laws
use Rattle.sweep.proofs.put_progress.Goals as goal

pub returns : goal.returns
returns c =
    laws.put_progress c.args.done c.args.steps c.args.left c.args.elapsed (omega arith) c.put_decimal-i.ensures c.put_word-j.ensures c.put_decimal-k.ensures
    c.put_word-l.ensures c.quotient.ensures c.put_rate.ensures
