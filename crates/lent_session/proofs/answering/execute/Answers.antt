use Rattle.lent_session.proofs.Answered as answered
use Rattle.lent_session.proofs.answering.execute.Goals as goal

pub returns-in-Call : goal.returns-in-Call
returns-in-Call c = answered.called _ _ _ c.in-Call.is c.call.ensures.0 c.call.ensures.1 c.untold.ensures

pub returns-in-Exit : goal.returns-in-Exit
returns-in-Exit c =
    answered.exited _ _ _ c.in-Exit.is c.request_exit.ensures.0 c.request_exit.ensures.1 c.untold-in-Exit.ensures

pub returns-in-Step : goal.returns-in-Step
returns-in-Step c =
    answered.stepped _ _ _ c.in-Step.is c.step.ensures.0 c.step.ensures.1 c.step.ensures.2 c.untold-in-Step.ensures

pub returns-in-Trace : goal.returns-in-Trace
returns-in-Trace c =
    answered.traced _ _ _ c.in-Trace.is c.trace.ensures.0 c.trace.ensures.1 c.trace.ensures.2 c.trace.ensures.3

pub returns-in-Read : goal.returns-in-Read
returns-in-Read c = answered.read _ _ _ c.in-Read.is c.read.ensures c.untold-in-Read.ensures

pub returns-in-Change : goal.returns-in-Change
returns-in-Change c =
    answered.changed _ _ _ c.in-Change.is c.change.ensures.0 c.change.ensures.1 c.untold-in-Change.ensures

pub returns-in-Malformed : goal.returns-in-Malformed
returns-in-Malformed c = answered.malformed _ _ _ c.in-Malformed.is c.untold-in-Malformed.ensures
