use Rattle.construction.specs.Cells.{released}
use Rattle.cells.proofs.released.Goals as goal

pub returns : goal.returns
unfolding released
returns c = rw c.wrapping_add_u64.ensures.value
