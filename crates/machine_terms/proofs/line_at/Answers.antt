use Rattle.std.proofs.Common.{arith}
use Rattle.machine_terms.proofs.Laws as laws
use Rattle.machine_terms.proofs.line_at.Goals as goal

pub overflow_add-at : goal.overflow_add-at
overflow_add-at c =
    omega (
      arith,
      laws.word_fits _ _ _ c.has_word.ensures c.if-has_word.true 18446744073709551615 (omega arith) (omega
          arith),
    )
