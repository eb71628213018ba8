use Rattle.construction.specs.Cells.{previous}
use Rattle.cells.proofs.previous.Goals as goal

pub returns-then-cell : goal.returns-then-cell
unfolding previous
returns-then-cell c = rw c.if-cell.true

pub returns-else-cell : goal.returns-else-cell
unfolding previous
returns-else-cell c = rw c.if-cell.false
