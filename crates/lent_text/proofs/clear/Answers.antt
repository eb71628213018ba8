use Rattle.std.proofs.Common.{arith, sym}
use Rattle.lent_text.proofs.Clearing as clearing
use Rattle.lent_text.proofs.clear.Goals as goal

pub returns-then-b-ge-SIZE : goal.returns-then-b-ge-SIZE
returns-then-b-ge-SIZE c = clearing.filled_front _ _ c.if-b-ge-SIZE.true (c.fill.ensures.after (λ y e. e))

pub returns-else-b-ge-SIZE : goal.returns-else-b-ge-SIZE
returns-else-b-ge-SIZE c = sym (clearing.cleared_short c.args.b.now (omega arith))
