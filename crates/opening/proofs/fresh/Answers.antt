use Rattle.construction.specs.Opening.{fresh}
use Rattle.opening.proofs.fresh.Goals as goal

pub returns : goal.returns
unfolding fresh
returns c =
    rw (
      c.open_announcement-announcement.ensures,
      c.open_records.ensures,
      c.zeros.ensures,
      c.started.ensures,
      c.empty.ensures,
    )
