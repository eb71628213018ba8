use Rattle.std.proofs.Common.{arith}
use Rattle.schedules.proofs.Laws as laws
use Rattle.schedules.proofs.put_progress.Goals as goal

pub returns : goal.returns
returns c =
    laws.put_progress c.args.done c.args.pieces c.args.elapsed (omega arith) c.put_word-i.ensures c.put_decimal-j.ensures c.put_word-k.ensures
    c.put_decimal-l.ensures c.put_word-m.ensures c.put_decimal-n.ensures c.put_word.ensures
