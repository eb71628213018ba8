use Rattle.std.proofs.Common.{refl}
use Rattle.shared_processor.proofs.Requests as laws
use Rattle.construction.specs.History.{Entry, Steps}
use Rattle.shared_processor.proofs.stepping.trace.Goals as goal

pub returns-in-Err : goal.returns-in-Err
returns-in-Err c =
    let a = c.args in
    rw c.no_report.ensures
    (laws.refused_step a.a a.stride a.blocks.now a.loans.now a.m a.process (Entry.Trace a.process)
    Steps.by_trace _ c.in-Err.ensures refl)

pub returns : goal.returns
returns c =
    let a = c.args in
    laws.accepted_step_made a.a a.stride a.blocks.now a.loans.now a.m a.process (Entry.Trace a.process)
    Steps.by_trace _ _ c.part_of-block.ensures.start c.part_of-block.ensures.end _ _
    c.part_of-loan.ensures.start c.part_of-loan.ensures.end _ c.in-Ok.ensures refl
    (λ j. record { answer = c.trace-told.ensures.0 j; report = c.trace-told.ensures.1 j })
    c.trace-told.ensures.2 c.trace-told.ensures.3
