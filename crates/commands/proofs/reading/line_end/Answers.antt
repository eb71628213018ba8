use Rattle.std.proofs.Common.{ℕ, ◌≡◌, arith, drop_of_length-le, drop-cons, add-one, eq-eqb, ne_eqb}
use Rattle.commands.specs.Commands.{line_end}
use Rattle.commands.proofs.reading.line_end.Goals as goal

pub returns-then-calls-i-eq10 : goal.returns-then-calls-i-eq10
unfolding line_end
returns-then-calls-i-eq10 c =
    rw (c.loop-i.invariant.0, drop-cons {A = ℕ} _ _ 0 c.loop-i-test.true, eq-eqb _ _ c.if-calls-i-eq10.true, add-one)

pub loop-i-preserved : goal.loop-i-preserved
unfolding line_end
loop-i-preserved c = (
  rw (c.loop-i.invariant.0, drop-cons {A = ℕ} _ _ 0 c.loop-i-test.true, ne_eqb _ _ c.if-calls-i-eq10.false, add-one),
  omega arith,
)

pub returns : goal.returns
unfolding line_end
returns c =
    let e : c.max.result ≡ c.loop-i.i = omega arith in
    rw (e, c.loop-i.invariant.0, drop_of_length-le _ c.loop-i-test.false)
