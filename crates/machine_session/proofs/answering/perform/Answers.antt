use Rattle.machine_session.proofs.Answered as laws
use Rattle.machine_session.proofs.answering.perform.Goals as goal

pub returns-in-Call : goal.returns-in-Call
returns-in-Call c = laws.called _ _ _ _ _ _ c.in-Call.is c.call.ensures c.told.ensures

pub returns-in-Exit : goal.returns-in-Exit
returns-in-Exit c = laws.exited _ _ _ _ _ _ c.in-Exit.is c.request_exit.ensures c.told-in-Exit.ensures

pub returns-in-Step : goal.returns-in-Step
returns-in-Step c = laws.stepped _ _ _ _ _ _ c.in-Step.is c.step.ensures c.told_step.ensures

pub returns-in-Trace : goal.returns-in-Trace
returns-in-Trace c = laws.traced _ _ _ _ _ _ c.in-Trace.is c.trace.ensures

pub returns-in-Read : goal.returns-in-Read
returns-in-Read c = laws.read _ _ _ _ _ _ c.in-Read.is c.read.ensures c.told-in-Read.ensures

pub returns-in-Change : goal.returns-in-Change
returns-in-Change c = laws.changed _ _ _ _ _ _ c.in-Change.is c.change.ensures c.told-in-Change.ensures

pub returns-in-Malformed : goal.returns-in-Malformed
returns-in-Malformed c = laws.malformed _ _ _ _ _ _ c.in-Malformed.is c.told-in-Malformed.ensures
