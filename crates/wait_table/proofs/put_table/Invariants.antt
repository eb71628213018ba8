use Rattle.std.proofs.Common.{◌-◌}
use Rattle.grammar.proofs.Puts as puts
use Rattle.wait_table.specs.Table.{rows_text, table_text}
use Rattle.wait_table.proofs.put_table.Given as goal

abbrev pub invariant-loop-row : goal.invariant-loop-row
invariant-loop-row l =
    puts.Rest l.initial.buffer l.at table_text l.buffer l.i (rows_text (8 - l.row) l.row)
