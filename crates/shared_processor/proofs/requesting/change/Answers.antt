use Rattle.std.proofs.Common.{[], ap}
use Rattle.shared_processor.proofs.Requests as laws
use Rattle.lent_runs.specs.Runs.{untraced}
use Rattle.construction.specs.History.{Entry}
use Rattle.shared_processor.proofs.requesting.change.Goals as goal

pub returns-in_default : goal.returns-in_default
returns-in_default c =
    let a = c.args in laws.absent a.a 0 a.blocks.now [] a.m (Entry.Change a.program a.from a.text.now) c.in_default.ensures

pub returns : goal.returns
returns c =
    let a = c.args in
    laws.plain a.a a.blocks.now a.m c.in-Some.ensures.0 _ _ c.in-Some.ensures.1 c.in-Some.ensures.2
    (Entry.Change a.program a.from a.text.now) tt (ap untraced c.change.ensures.0) c.change.ensures.1
