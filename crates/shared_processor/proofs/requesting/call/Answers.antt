use Rattle.std.proofs.Common.{[], ap}
use Rattle.shared_processor.proofs.Requests as laws
use Rattle.lent_runs.specs.Runs.{untraced}
use Rattle.construction.specs.History.{Entry}
use Rattle.shared_processor.proofs.requesting.call.Goals as goal

pub returns-in_default : goal.returns-in_default
returns-in_default c =
    let a = c.args in laws.absent a.a 0 a.blocks.now [] a.m (Entry.Call a.process a.program a.inputs) c.in_default.ensures

pub returns : goal.returns
returns c =
    let a = c.args in
    laws.plain a.a a.blocks.now a.m c.in-Some.ensures.0 _ _ c.in-Some.ensures.1 c.in-Some.ensures.2
    (Entry.Call a.process a.program a.inputs) tt (ap untraced c.call.ensures.0) c.call.ensures.1
