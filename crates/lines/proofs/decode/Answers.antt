use Rattle.std.proofs.Common.{arith, ◌≡◌, Some, None}
use Rattle.std.proofs.lemmas.Result.{err_from_is_err_and}
use Rattle.construction.specs.declared.answers.Refusal.TheVariants.{UnknownCode}
use Rattle.construction.proofs.Text.Decoding as laws
use Rattle.lines.proofs.decode.Goals as goal

pub returns-in_err-format : goal.returns-in_err-format
returns-in_err-format c =
    let n : c.format_of.result ≡ None = grind arith in
    let p = err_from_is_err_and c.from_residual.result c.from_residual.ensures.1 in
    let q : c.in_err-format.field-0.0 ≡ UnknownCode = grind arith in
    rw (p.1, p.2, q) (laws.decode_unknown _ _ c.format_of.ensures n)

pub returns-then-not-operands_in_range : goal.returns-then-not-operands_in_range
returns-then-not-operands_in_range c =
    let f : c.format_of.result ≡ Some c.in_ok-format.format = grind arith in
    laws.decode_range _ _ c.format_of.ensures f c.operands_in_range.ensures c.if-not-operands_in_range.true

pub returns-then-not-operands_zero_if_unused : goal.returns-then-not-operands_zero_if_unused
returns-then-not-operands_zero_if_unused c =
    let f : c.format_of.result ≡ Some c.in_ok-format.format = grind arith in
    laws.decode_unused _ _ c.format_of.ensures f c.operands_in_range.ensures
    c.if-not-operands_in_range.false c.operands_zero_if_unused.ensures c.if-not-operands_zero_if_unused.true

pub returns-then-x-eq2 : goal.returns-then-x-eq2
returns-then-x-eq2 c =
    let f : c.format_of.result ≡ Some c.in_ok-format.format = grind arith in
    laws.decode_constant _ _ c.format_of.ensures f c.operands_in_range.ensures
    c.if-not-operands_in_range.false c.operands_zero_if_unused.ensures (omega arith)
    c.if-not-operands_zero_if_unused.false c.if-x-eq2.true

pub returns : goal.returns
returns c =
    let f : c.format_of.result ≡ Some c.in_ok-format.format = grind arith in
    laws.decode_bytes _ _ c.format_of.ensures f c.operands_in_range.ensures
    c.if-not-operands_in_range.false c.operands_zero_if_unused.ensures (omega arith)
    c.if-not-operands_zero_if_unused.false c.if-x-eq2.false c.instruction_of.ensures
