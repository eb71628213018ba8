use Rattle.std.proofs.Common.{◌≡◌, Some, None, sym, ◌∙◌, arith}
use Rattle.std.proofs.lemmas.Result.{err_from_is_err_and}
use Rattle.grammar.proofs.Bytes as bytes
use Rattle.construction.specs.declared.answers.Refusal.TheVariants.{Malformed}
use Rattle.construction.specs.Lines as lines
use Rattle.construction.proofs.Text.Lines as laws
use Rattle.lines.proofs.var_line.Goals as goal

pub returns-then-not-has_word : goal.returns-then-not-has_word
returns-then-not-has_word c = laws.var_other _ _ c.has_word.ensures c.if-not-has_word.true

pub overflow_add-at : goal.overflow_add-at
overflow_add-at c =
    omega (
      arith,
      bytes.word_within c.args.text.now lines.var_word c.args.at (omega arith) (sym c.has_word.ensures ∙
          c.if-not-has_word.false),
    )

pub returns-in_err-value : goal.returns-in_err-value
returns-in_err-value c =
    let p = err_from_is_err_and c.from_residual.result c.from_residual.ensures.1 in
    let why : c.in_err-value.field-0.0 ≡ Malformed = grind arith in
    let none : c.field_at.result ≡ None = grind arith in
    rw (p.1, p.2, why) (laws.var_malformed _ _ c.has_word.ensures c.if-not-has_word.false (sym none ∙ c.field_at.ensures))

pub returns-then-value-ge4294967296 : goal.returns-then-value-ge4294967296
returns-then-value-ge4294967296 c =
    let some : c.field_at.result ≡ Some c.in_ok-value.field-0 = grind arith in
    laws.var_out _ _ c.has_word.ensures c.if-not-has_word.false (sym some ∙ c.field_at.ensures)
    c.if-value-ge4294967296.true

pub returns : goal.returns
returns c =
    let some : c.field_at.result ≡ Some c.in_ok-value.field-0 = grind arith in
    laws.var_start _ _ c.has_word.ensures c.if-not-has_word.false (sym some ∙ c.field_at.ensures)
    c.if-value-ge4294967296.false
