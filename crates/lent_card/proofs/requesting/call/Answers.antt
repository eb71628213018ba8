use Rattle.std.proofs.Common.{refl}
use Rattle.lent_card.proofs.Judging as judging
use Rattle.lent_card.proofs.requesting.call.Goals as goal

pub returns-in-Err : goal.returns-in-Err
returns-in-Err c = (c.in-Err.ensures, judging.call_refused _ _ _ _ c.in-Err.ensures refl)

pub returns : goal.returns
returns c = (
  c.in_default.ensures {u = tt},
  judging.call_taken _ _ _ _ (c.in_default.ensures {u = tt}) refl c.narrow.ensures c.narrow-2.ensures c.put_call.ensures,
)
