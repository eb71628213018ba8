use Rattle.std.proofs.Common.{◌-◌}
use Rattle.dump.specs.Dump.{vars_text}
use Rattle.grammar.proofs.Puts as puts
use Rattle.dump_writer.proofs.dump_lines.put_vars.Given as goal

abbrev pub invariant-loop-v : goal.invariant-loop-v
invariant-loop-v l =
    puts.Rest l.initial.buffer l.at (vars_text l.count 0) l.buffer l.i (vars_text (l.count - l.v) l.v)
