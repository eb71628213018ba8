-- What is left of the word is what is left to put.
use Rattle.std.proofs.Common.{drop}
use Rattle.grammar.proofs.Puts as puts
use Rattle.grammar.proofs.writing.put_word.Given as goal

abbrev pub invariant-loop-byte : goal.invariant-loop-byte
invariant-loop-byte l = puts.Rest l.initial.buffer l.at l.word l.buffer l.i (drop l.byte-index l.word)
