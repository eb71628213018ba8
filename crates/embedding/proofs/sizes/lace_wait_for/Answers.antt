use Rattle.embedding.proofs.Sizing as sizing
use Rattle.embedding.proofs.sizes.lace_wait_for.Goals as goal

pub returns : goal.returns
returns c =
    rw (c.unwrap_or.ensures, c.wait_for.ensures, c.narrow-2.ensures, c.narrow.ensures)
    (sizing.narrowed c.args.processes c.args.weight)
