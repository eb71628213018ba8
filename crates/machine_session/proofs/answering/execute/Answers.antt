use Rattle.machine_session.proofs.Answered as laws
use Rattle.machine_session.proofs.answering.execute.Goals as goal

pub returns-in-To : goal.returns-in-To
returns-in-To c = laws.to _ _ _ _ _ c.in-To.is c.perform.ensures

pub returns-in-Turn : goal.returns-in-Turn
returns-in-Turn c = laws.turned _ _ _ _ _ c.in-Turn.is c.turned.ensures c.told.ensures
