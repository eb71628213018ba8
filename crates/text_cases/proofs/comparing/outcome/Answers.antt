use Rattle.std.proofs.Common.{replicate}
use Rattle.text_cases.specs.Comparing.{filler, outcome_of}
use Rattle.text_cases.proofs.Laws as laws
use Rattle.text_cases.proofs.comparing.outcome.Goals as goal

pub returns : goal.returns
unfolding outcome_of
returns c = laws.outcome_in_lem c.args.card c.args.wanted.now (replicate 8192 filler) c.args.room c.write-written.ensures c.bytes_of.ensures c.agrees-same.ensures
