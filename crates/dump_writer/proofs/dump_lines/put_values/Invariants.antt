use Rattle.std.proofs.Common.{◌-◌}
use Rattle.dump.specs.Dump.{values_text}
use Rattle.grammar.proofs.Puts as puts
use Rattle.dump_writer.proofs.dump_lines.put_values.Given as goal

abbrev pub invariant-loop-v : goal.invariant-loop-v
invariant-loop-v l =
    puts.Rest l.initial.buffer l.at (values_text l.count 0 l.row) l.buffer l.i
    (values_text (l.count - l.v) l.v l.row)
