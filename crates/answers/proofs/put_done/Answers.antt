use Rattle.std.proofs.Common.{arith}
use Rattle.answers.proofs.Texts as laws
use Rattle.answers.proofs.put_done.Goals as goal

pub returns : goal.returns
returns c =
    laws.put_done _ _ _ (omega (arith, c.well_formed.0.0, c.ranges.at)) c.put_done_word-i.ensures c.put_number-j.ensures c.put_outputs-k.ensures
    c.put_number.ensures
