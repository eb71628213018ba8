use Rattle.sweeping.proofs.Progressing.{saturated}
use Rattle.sweeping.proofs.pieces.added.Goals as goal

pub returns : goal.returns
returns c =
    rw (
      saturated c.args.c.accepted c.args.d.accepted c.saturating_add.ensures,
      saturated c.args.c.done c.args.d.done c.saturating_add-2.ensures,
      saturated c.args.c.faulted c.args.d.faulted c.saturating_add-3.ensures,
      saturated c.args.c.exited c.args.d.exited c.saturating_add-4.ensures,
      c.max.ensures,
    )
