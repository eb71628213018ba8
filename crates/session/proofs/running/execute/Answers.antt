use Rattle.session.specs.Session.{execute}
use Rattle.session.proofs.running.execute.Goals as goal

pub returns-in-Call : goal.returns-in-Call
unfolding execute
returns-in-Call c = rw (c.in-Call.is, ← c.call.ensures) c.untraced.ensures

pub returns-in-Exit : goal.returns-in-Exit
unfolding execute
returns-in-Exit c = rw (c.in-Exit.is, ← c.request_exit.ensures) c.untraced-in-Exit.ensures

pub returns-in-Step : goal.returns-in-Step
unfolding execute
returns-in-Step c = rw (c.in-Step.is, ← c.step.ensures) c.untraced-in-Step.ensures

pub returns-in-Trace : goal.returns-in-Trace
unfolding execute
returns-in-Trace c = rw c.in-Trace.is c.trace.ensures

pub returns-in-Read : goal.returns-in-Read
unfolding execute
returns-in-Read c = rw (c.in-Read.is, ← c.read.ensures) c.untraced-in-Read.ensures

pub returns-in-Change : goal.returns-in-Change
unfolding execute
returns-in-Change c = rw (c.in-Change.is, ← c.change.ensures) c.untraced-in-Change.ensures

pub returns-in-Malformed : goal.returns-in-Malformed
unfolding execute
returns-in-Malformed c = rw c.in-Malformed.is c.untraced-in-Malformed.ensures
