use Rattle.std.proofs.Common.{◌+◌, ◌-◌}
use Rattle.grammar.proofs.Puts as puts
use Rattle.wait_table.specs.Table.{row_text}
use Rattle.wait_table.proofs.put_row.Given as goal

abbrev pub invariant-loop-weight : goal.invariant-loop-weight
invariant-loop-weight l =
    puts.Rest l.initial.buffer l.at (row_text (l.row + 1) 33 0) l.buffer l.i
    (row_text (l.row + 1) (33 - l.weight) l.weight)
