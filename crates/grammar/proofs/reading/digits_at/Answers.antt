use Rattle.std.proofs.Common.{arith, sym, ◌≡◌, ◌∙◌}
use Rattle.grammar.proofs.Digits as laws
use Rattle.grammar.proofs.reading.digits_at.Goals as goal

pub loop-i-preserved : goal.loop-i-preserved
loop-i-preserved c = (
  c.loop-i.invariant.0 ∙ laws.digits_more _ _ _ c.loop-i-test.true c.is_digit.ensures c.if-not-is_digit.false c.grown-value.ensures,
  omega arith,
  omega arith,
)

pub returns-then-not-is_digit : goal.returns-then-not-is_digit
returns-then-not-is_digit c =
    sym (c.loop-i.invariant.0 ∙ laws.digits_stop _ _ _ c.loop-i-test.true c.is_digit.ensures c.if-not-is_digit.true)

pub returns : goal.returns
returns c =
    let e : c.max.result ≡ c.loop-i.i = omega arith in
    rw e (sym (c.loop-i.invariant.0 ∙ laws.digits_end_lem _ _ _ c.loop-i-test.false))
