use Rattle.std.proofs.Common.{◌-◌}
use Rattle.construction.specs.Writing.{vars_text}
use Rattle.grammar.proofs.Puts as puts
use Rattle.writer.proofs.put_vars.Given as goal

abbrev pub invariant-loop-k : goal.invariant-loop-k
invariant-loop-k l =
    puts.Rest l.initial.buffer l.at (vars_text l.count 0 l.starts) l.buffer l.i
    (vars_text (l.count - l.k) l.k l.starts)
