use Rattle.std.proofs.Common.{sym, ◌≡◌, ◌∙◌, arith}
use Rattle.dump.proofs.Binaries as laws
use Rattle.dump_reader.proofs.binary.bits_from.Goals as goal

pub loop-i-preserved : goal.loop-i-preserved
loop-i-preserved c = (
  c.loop-i.invariant.0 ∙ laws.bits_more _ _ _ c.loop-i-test.true c.is_bit.ensures c.if-not-is_bit.false
      c.grown-value.ensures,
  omega arith,
  omega arith,
)

pub returns-then-not-is_bit : goal.returns-then-not-is_bit
returns-then-not-is_bit c =
    sym (c.loop-i.invariant.0 ∙ laws.bits_stop _ _ _ c.loop-i-test.true c.is_bit.ensures c.if-not-is_bit.true)

pub returns : goal.returns
returns c =
    let e : c.max.result ≡ c.loop-i.i = omega arith in
    rw e (sym (c.loop-i.invariant.0 ∙ laws.bits_end _ _ _ c.loop-i-test.false))
