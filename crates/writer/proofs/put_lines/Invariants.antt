use Rattle.std.proofs.Common.{◌-◌}
use Rattle.construction.specs.Writing.{lines_text}
use Rattle.grammar.proofs.Puts as puts
use Rattle.writer.proofs.put_lines.Given as goal

abbrev pub invariant-loop-k : goal.invariant-loop-k
invariant-loop-k l =
    puts.Rest l.initial.buffer l.at (lines_text l.count 0 l.lines) l.buffer l.i
    (lines_text (l.count - l.k) l.k l.lines)
