use Rattle.std.proofs.Common.{arith}
use Rattle.dump_reader.proofs.Laws as laws
use Rattle.std.proofs.lemmas.Bool.{not_from_false, not_from_true}
use Rattle.dump_reader.proofs.header.then_word.Goals as goal

pub returns-in_default : goal.returns-in_default
returns-in_default c = let a = c.args in laws.word_refused a.text.now a.word.now a.header c.in_default.is

pub returns-then-not-has_word : goal.returns-then-not-has_word
returns-then-not-has_word c =
    let a = c.args in
    laws.word_other a.text.now a.word.now a.header c.in-Ok.is c.has_word.ensures
    (not_from_false _ c.if-not-has_word.true) c.header_refused.ensures

pub overflow_add-result : goal.overflow_add-result
overflow_add-result c =
    let a = c.args in
    let h = laws.word_fits a.text.now a.word.now a.header c.in-Ok.is c.has_word.ensures
    (not_from_true _ c.if-not-has_word.false) c.requires.0 in
    omega arith

pub returns : goal.returns
returns c =
    let a = c.args in
    laws.word_there a.text.now a.word.now a.header c.in-Ok.is c.has_word.ensures
    (not_from_true _ c.if-not-has_word.false)
