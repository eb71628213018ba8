use Rattle.std.proofs.Common.{◌≡◌, arith}
use Rattle.requests.proofs.behind.some_behind.Goals as goal

-- after the last of eight places
pub returns : goal.returns
returns c = let e : c.loop-i.i ≡ 8 = omega arith in rw e at c.loop-i.invariant
