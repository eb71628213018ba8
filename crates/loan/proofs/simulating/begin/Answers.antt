use Rattle.loan.proofs.Runs as runs
use Rattle.loan.proofs.simulating.begin.Goals as goal

pub returns : goal.returns
returns c =
    runs.begins _ _ _ _ _ _ _ _ _ _ _ c.started.ensures (rw c.none-numbers.ensures at c.resume-pause.ensures.told) c.after_pause.ensures
