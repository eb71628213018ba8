use Rattle.embedding.specs.Sizes.{wait_in}
use Rattle.embedding.proofs.sizes.lace_wait.Goals as goal

pub returns : goal.returns
unfolding wait_in
returns c = rw (c.unwrap_or.ensures, c.wait_for.ensures, c.room.ensures, c.process_count.ensures)
