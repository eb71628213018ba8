use Rattle.std.proofs.Common.{◌≡◌, Some, None, Ok, Err, sym, ◌∙◌, arith}
use Rattle.std.proofs.lemmas.Result.{err_from_is_err_and}
use Rattle.grammar.proofs.Bytes as bytes
use Rattle.construction.specs.declared.answers.Refusal.TheVariants.{Malformed}
use Rattle.construction.specs.Lines as lines
use Rattle.construction.proofs.Text.Lines as laws
use Rattle.lines.proofs.ins_line.Goals as goal

pub returns-then-not-has_word : goal.returns-then-not-has_word
returns-then-not-has_word c = laws.ins_other _ _ _ c.has_word.ensures c.if-not-has_word.true

pub overflow_add-at : goal.overflow_add-at
overflow_add-at c =
    omega (
      arith,
      bytes.word_within c.args.text.now lines.ins_word c.args.at (omega arith) (sym c.has_word.ensures ∙
          c.if-not-has_word.false),
    )

pub returns-in_err-value : goal.returns-in_err-value
returns-in_err-value c =
    let p = err_from_is_err_and c.from_residual.result c.from_residual.ensures.1 in
    let why : c.in_err-value.field-0.0 ≡ Malformed = grind arith in
    let none : c.four_at.result ≡ None = grind arith in
    rw (p.1, p.2, why) (laws.ins_malformed _ _ _ c.has_word.ensures c.if-not-has_word.false (sym none ∙ c.four_at.ensures))

pub returns-in_err-value-2 : goal.returns-in_err-value-2
returns-in_err-value-2 c =
    let some : c.four_at.result ≡ Some c.in_ok-value.field-0 = grind arith in
    let p = err_from_is_err_and c.from_residual-in_err-value-2.result c.from_residual-in_err-value-2.ensures.1 in
    let why : c.decode.result ≡ Err c.in_err-value-2.field-0.0 = grind arith in
    rw (p.1, p.2) (laws.ins_decoded _ _ _ c.has_word.ensures c.if-not-has_word.false (sym some ∙ c.four_at.ensures)
    c.decode.ensures (rw why))

pub returns : goal.returns
returns c =
    let some : c.four_at.result ≡ Some c.in_ok-value.field-0 = grind arith in
    let read : c.decode.result ≡ Ok c.in_ok-value-2.value = grind arith in
    laws.ins_decoded _ _ _ c.has_word.ensures c.if-not-has_word.false (sym some ∙ c.four_at.ensures)
    c.decode.ensures (rw read)
