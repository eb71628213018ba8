use Rattle.construction.specs.Cells.{current}
use Rattle.cells.proofs.current.Goals as goal

pub returns-then-cell : goal.returns-then-cell
unfolding current
returns-then-cell c = rw c.if-cell.true

pub returns-else-cell : goal.returns-else-cell
unfolding current
returns-else-cell c = rw c.if-cell.false
