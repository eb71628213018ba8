use Rattle.loan.proofs.Runs as runs
use Rattle.loan.proofs.simulating.resume.Goals as goal

pub returns-clause-told : goal.returns-clause-told
returns-clause-told c =
    runs.simulates _ _ _ _ _ _ _ _ _ _ _ _ _ c.variable_count-n.ensures c.under-text.ensures c.simulate-paused.ensures.told c.put_simulation.ensures
