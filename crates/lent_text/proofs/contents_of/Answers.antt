use Rattle.std.proofs.Common.{[]}
use Rattle.lent_text.proofs.Contents as contents
use Rattle.lent_text.proofs.contents_of.Goals as goal

pub returns : goal.returns
returns c =
    contents.contents_taken c.args.b.now [] _ _ _ _ _ _ c.process_count.ensures c.variable_count.ensures
    c.program_count.ensures c.limit.ensures c.starts_of.ensures c.programs_of.ensures
