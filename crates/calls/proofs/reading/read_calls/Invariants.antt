use Rattle.calls.proofs.Lines as laws
use Rattle.calls.proofs.reading.read_calls.Given as goal

abbrev pub invariant-loop-i : goal.invariant-loop-i
invariant-loop-i l = laws.ReadTo l.text l.count l.words l.at l.i
