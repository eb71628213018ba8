use Rattle.arguments.proofs.Digits.{DigitsTo}
use Rattle.arguments.proofs.decimal_of.Given as goal

abbrev pub invariant-loop-byte : goal.invariant-loop-byte
invariant-loop-byte l = DigitsTo l.text l.value l.byte-index
