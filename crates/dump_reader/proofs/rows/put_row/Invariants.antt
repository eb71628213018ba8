use Rattle.std.proofs.Common.{◌-◌, ◌≤◌, ◌∷◌, [], ◌++◌}
use Rattle.grammar.proofs.Puts as puts
use Rattle.dump_reader.specs.Rows.{numbers_text}
use Rattle.dump_reader.proofs.rows.put_row.Given as goal

abbrev pub invariant-loop-v : goal.invariant-loop-v
invariant-loop-v l =
    puts.Rest l.initial.buffer l.initial.i (numbers_text l.all 0 l.values ++ (10 ∷ [])) l.buffer l.i
    (numbers_text (l.all - l.v) l.v l.values ++ (10 ∷ [])) × (l.all ≤ 64)
