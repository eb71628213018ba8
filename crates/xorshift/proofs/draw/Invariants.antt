use Rattle.xorshift.proofs.Drawing.{Drawn}
use Rattle.xorshift.proofs.draw.Given as goal

abbrev pub invariant-loop-process : goal.invariant-loop-process
invariant-loop-process l = Drawn l.initial.buffer l.x-2 l.p l.process-index l.x l.buffer
