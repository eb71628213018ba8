use Rattle.std.proofs.Common.{refl}
use Rattle.lent_card.proofs.Judging as judging
use Rattle.lent_card.proofs.requesting.request_exit.Goals as goal

pub returns-in-Err : goal.returns-in-Err
returns-in-Err c = (c.in-Err.ensures, judging.exit_refused _ _ c.in-Err.ensures refl)

pub returns : goal.returns
returns c = (
  c.in_default.ensures {u = tt},
  judging.exit_taken _ _ (c.in_default.ensures {u = tt}) refl c.narrow.ensures c.put_exit.ensures,
)
