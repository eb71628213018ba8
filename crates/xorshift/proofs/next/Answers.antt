use Rattle.std.proofs.Common.{refl}
use Rattle.xorshift.specs.Xorshift.{next}
use Rattle.xorshift.proofs.next.Goals as goal

pub returns : goal.returns
unfolding next
returns c = refl
