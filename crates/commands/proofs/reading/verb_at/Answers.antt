use Rattle.std.proofs.Common.{arith}
use Rattle.commands.proofs.CommandsLaws as laws
use Rattle.commands.proofs.reading.verb_at.Goals as goal

pub overflow_add-at : goal.overflow_add-at
overflow_add-at c =
    omega (arith, laws.word_fits _ _ _ c.has_word.ensures c.if-has_word.true {n = 18446744073709551615} (omega arith) (omega arith))

pub overflow_add-at-then-has_word-2 : goal.overflow_add-at-then-has_word-2
overflow_add-at-then-has_word-2 c =
    omega (arith, laws.word_fits _ _ _ c.has_word-2.ensures c.if-has_word-2.true {n = 18446744073709551615} (omega arith) (omega arith))

pub overflow_add-at-then-has_word-3 : goal.overflow_add-at-then-has_word-3
overflow_add-at-then-has_word-3 c =
    omega (arith, laws.word_fits _ _ _ c.has_word-3.ensures c.if-has_word-3.true {n = 18446744073709551615} (omega arith) (omega arith))

pub overflow_add-at-then-has_word-4 : goal.overflow_add-at-then-has_word-4
overflow_add-at-then-has_word-4 c =
    omega (arith, laws.word_fits _ _ _ c.has_word-4.ensures c.if-has_word-4.true {n = 18446744073709551615} (omega arith) (omega arith))

pub overflow_add-at-then-has_word-5 : goal.overflow_add-at-then-has_word-5
overflow_add-at-then-has_word-5 c =
    omega (arith, laws.word_fits _ _ _ c.has_word-5.ensures c.if-has_word-5.true {n = 18446744073709551615} (omega arith) (omega arith))

pub overflow_add-at-then-has_word-6 : goal.overflow_add-at-then-has_word-6
overflow_add-at-then-has_word-6 c =
    omega (arith, laws.word_fits _ _ _ c.has_word-6.ensures c.if-has_word-6.true {n = 18446744073709551615} (omega arith) (omega arith))
