use Rattle.std.proofs.Common.{length-set, add-one, sub-eq-zero_of_le, arith}
use Rattle.construction.specs.Opening.{vars_from}
use Rattle.reader.proofs.Laws as laws
use Rattle.reader.proofs.read_vars.Goals as goal

pub returns-in_default : goal.returns-in_default
unfolding vars_from
returns-in_default c = rw (c.refused.ensures, c.loop-k.invariant.0, laws.one_less _ _ c.loop-k-test.true, ← c.var_line-read.ensures, c.in_default.is)

pub loop-k-preserved : goal.loop-k-preserved
unfolding vars_from
loop-k-preserved c = (
  rw (c.loop-k.invariant.0, laws.one_less _ _ c.loop-k-test.true, ← c.var_line-read.ensures, c.in-Ok.is)
      (simp add-one),
  omega arith,
  simp length-set c.loop-k.invariant.2,
)

pub returns : goal.returns
unfolding vars_from
returns c = rw (c.loop-k.invariant.0, sub-eq-zero_of_le c.loop-k-test.false)
