use Rattle.std.proofs.Common.{refl, ap}
use Rattle.shared_processor.proofs.Requests as laws
use Rattle.lent_runs.specs.Runs.{untraced}
use Rattle.construction.specs.History.{Entry, Steps}
use Rattle.shared_processor.proofs.stepping.step.Goals as goal

pub returns-in-Err : goal.returns-in-Err
returns-in-Err c =
    let a = c.args in
    laws.refused_step a.a a.stride a.blocks.now a.loans.now a.m a.process (Entry.Step a.process) Steps.by_step _
    c.in-Err.ensures refl

pub returns : goal.returns
returns c =
    let a = c.args in
    laws.accepted_step_made a.a a.stride a.blocks.now a.loans.now a.m a.process (Entry.Step a.process) Steps.by_step
    _ _ c.part_of-block.ensures.start c.part_of-block.ensures.end _ _ c.part_of-loan.ensures.start
    c.part_of-loan.ensures.end _ c.in-Ok.ensures refl
    (ap untraced c.step-answer.ensures.0) c.step-answer.ensures.1 c.step-answer.ensures.2
