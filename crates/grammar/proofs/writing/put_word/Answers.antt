use Rattle.grammar.proofs.Puts as puts
use Rattle.grammar.proofs.writing.put_word.Goals as goal

pub loop-byte-preserved : goal.loop-byte-preserved
loop-byte-preserved c = puts.word_turn _ _ c.loop-byte-test.true c.loop-byte.invariant c.put_byte-i.ensures
