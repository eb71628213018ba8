use Rattle.std.proofs.Common.{◌-◌}
use Rattle.construction.specs.Writing.{programs_text}
use Rattle.grammar.proofs.Puts as puts
use Rattle.writer.proofs.put_programs.Given as goal

abbrev pub invariant-loop-k : goal.invariant-loop-k
invariant-loop-k l =
    puts.Rest l.initial.buffer l.at (programs_text l.count 0 l.programs) l.buffer l.i
    (programs_text (l.count - l.k) l.k l.programs)
