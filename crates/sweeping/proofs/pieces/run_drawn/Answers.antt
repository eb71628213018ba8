use Rattle.sweeping.proofs.Progressing.{runs_drawn}
use Rattle.sweeping.proofs.pieces.run_drawn.Goals as goal

pub returns : goal.returns
returns c = runs_drawn c.process_count.ensures c.draw-x.ensures c.run-counts.ensures
