use Rattle.std.proofs.Common.{sym, ◌∙◌, arith}
use Rattle.grammar.proofs.Bytes.{word_within}
use Rattle.machine_commands.specs.Requests.{turn_line}
use Rattle.machine_commands.proofs.reading.request_at.Goals as goal

pub overflow_add-result : goal.overflow_add-result
overflow_add-result c =
    omega (arith, word_within _ turn_line _ (omega arith) (sym c.has_word.ensures ∙ c.if-has_word.true))
