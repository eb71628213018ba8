use Rattle.std.proofs.Common.{[]}
use Rattle.shared_processor.proofs.Requests as laws
use Rattle.construction.specs.History.{Entry}
use Rattle.shared_processor.proofs.requesting.read.Goals as goal

pub returns-in_default : goal.returns-in_default
returns-in_default c = let a = c.args in laws.absent a.a 0 a.blocks.now [] a.m (Entry.Read a.variable) c.in_default.ensures

pub returns : goal.returns
returns c =
    let a = c.args in
    laws.read_plain a.a a.blocks.now a.m c.in-Some.ensures.0 _ _ c.in-Some.ensures.1 c.in-Some.ensures.2 a.variable
    c.read.ensures
