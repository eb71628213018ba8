use Rattle.construction.specs.Cells.{rewritten}
use Rattle.cells.proofs.rewritten.Goals as goal

pub returns-then-cell : goal.returns-then-cell
unfolding rewritten
returns-then-cell c = rw c.if-cell.true

pub returns-else-cell : goal.returns-else-cell
unfolding rewritten
returns-else-cell c = rw c.if-cell.false
