use Rattle.std.proofs.Common.{arith}
use Rattle.answers.proofs.Texts as laws
use Rattle.answers.proofs.put_outputs.Goals as goal

pub returns : goal.returns
returns c =
    laws.put_outputs _ (omega (arith, c.well_formed.0.0, c.ranges.at)) c.put_number-i.ensures c.put_number-j.ensures c.put_number-k.ensures
    c.put_number.ensures
