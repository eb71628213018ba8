use Rattle.std.proofs.Common.{◌≡◌, Some, None, sym, ◌∙◌, arith}
use Rattle.std.proofs.lemmas.Result.{err_from_is_err_and}
use Rattle.grammar.proofs.Bytes as bytes
use Rattle.construction.specs.declared.answers.Refusal.TheVariants.{Malformed}
use Rattle.construction.specs.Lines as lines
use Rattle.construction.proofs.Text.Lines as laws
use Rattle.lines.proofs.card_line.Goals as goal

pub returns-then-not-has_word : goal.returns-then-not-has_word
returns-then-not-has_word c = laws.card_other _ _ c.has_word.ensures c.if-not-has_word.true

pub overflow_add-at : goal.overflow_add-at
overflow_add-at c =
    omega (
      arith,
      bytes.word_within c.args.text.now lines.card_word c.args.at (omega arith) (sym c.has_word.ensures ∙
          c.if-not-has_word.false),
    )

pub returns-in_err-value : goal.returns-in_err-value
returns-in_err-value c =
    let p = err_from_is_err_and c.from_residual.result c.from_residual.ensures.1 in
    let why : c.in_err-value.field-0.0 ≡ Malformed = grind arith in
    let none : c.four_at.result ≡ None = grind arith in
    rw (p.1, p.2, why) (laws.card_malformed _ _ c.has_word.ensures c.if-not-has_word.false (sym none ∙ c.four_at.ensures))

pub returns-then-not-card_fits : goal.returns-then-not-card_fits
returns-then-not-card_fits c =
    let some : c.four_at.result ≡ Some c.in_ok-value.field-0 = grind arith in
    laws.card_out _ _ c.has_word.ensures c.if-not-has_word.false (sym some ∙ c.four_at.ensures)
    c.card_fits.ensures c.if-not-card_fits.true

pub returns : goal.returns
returns c =
    let some : c.four_at.result ≡ Some c.in_ok-value.field-0 = grind arith in
    laws.card_fields _ _ c.has_word.ensures c.if-not-has_word.false (sym some ∙ c.four_at.ensures)
    c.card_fits.ensures c.if-not-card_fits.false
