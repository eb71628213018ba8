use Rattle.std.proofs.Common.{arith, ◌∙◌}
use Rattle.grammar.proofs.Bytes as bytes
use Rattle.grammar.proofs.reading.has_word.Goals as goal

pub returns-in-Some : goal.returns-in-Some
returns-in-Some c =
    bytes.word_starts _ _ c.in-Some.ensures.lookup.0.0 c.in-Some.ensures.lookup.0.2 c.starts_with.ensures.value

pub returns-in-None : goal.returns-in-None
returns-in-None c = c.is_empty.ensures ∙ bytes.word_past _ _ _ (omega (arith, c.in-None.ensures.lookup.0))
