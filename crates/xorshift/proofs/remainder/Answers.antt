use Rattle.std.proofs.Common.{eq-eqb, ne_eqb}
use Rattle.xorshift.specs.Xorshift.{remainder}
use Rattle.xorshift.proofs.remainder.Goals as goal

pub returns-then-p-eq8 : goal.returns-then-p-eq8
unfolding remainder
returns-then-p-eq8 c = rw c.if-p-eq8.true

pub returns-then-p-eq0 : goal.returns-then-p-eq0
unfolding remainder
returns-then-p-eq0 c = rw (eq-eqb c.args.p 0 c.if-p-eq0.true)

pub returns : goal.returns
unfolding remainder
returns c = rw (ne_eqb c.args.p 0 c.if-p-eq0.false)
