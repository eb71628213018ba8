use Rattle.std.proofs.Common.{replicate, ◌≡◌, ◌+◌, ◌-◌, ◌≤◌}
use Rattle.construction.specs.Opening.{program_so_far, ins_from}
use Rattle.construction.specs.Instructions.{no_line}
use lib.ListN as list
use Rattle.reader.proofs.read_lines.Given as goal

abbrev pub invariant-loop-k : goal.invariant-loop-k
invariant-loop-k l =
    (ins_from l.variable_count l.text l.length 0 (program_so_far l.length (replicate 32 no_line) l.start l.first) ≡
    ins_from l.variable_count l.text (l.length - l.k) l.k (program_so_far l.length l.lines l.at l.number)) ×
    (l.number ≤ l.first + l.k) × (list.length l.lines ≡ 32)
