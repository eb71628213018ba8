use Rattle.std.proofs.Common.{refl, arith}
use Rattle.arguments.proofs.Digits.{digits_none, no_digits, digit_more, digit_wrong, digits_all}
use Rattle.arguments.proofs.decimal_of.Goals as goal

pub returns-then-begins_wrong : goal.returns-then-begins_wrong
returns-then-begins_wrong c = no_digits c.args.text.now c.begins_wrong.ensures c.if-begins_wrong.true

pub loop-byte-init : goal.loop-byte-init
loop-byte-init c = digits_none c.args.text.now c.begins_wrong.ensures c.if-begins_wrong.false

pub returns-then-not-is_fit : goal.returns-then-not-is_fit
returns-then-not-is_fit c =
    digit_wrong c.loop-byte.invariant refl c.is_fit.ensures c.loop-byte-test.true c.if-not-is_fit.true

pub loop-byte-preserved : goal.loop-byte-preserved
loop-byte-preserved c = digit_more c.loop-byte.invariant refl c.is_fit.ensures c.loop-byte-test.true c.if-not-is_fit.false

pub returns : goal.returns
returns c = digits_all c.loop-byte.invariant (omega arith)
