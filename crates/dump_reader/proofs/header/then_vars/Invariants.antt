use Rattle.std.proofs.Common.{◌-◌, ◌+◌, ◌≤◌, ◌≡◌}
use Rattle.dump.specs.Reading.{vars_from}
use Rattle.dump_reader.proofs.Laws as laws
use Rattle.dump_reader.proofs.header.then_vars.Given as goal

abbrev pub invariant-loop-count : goal.invariant-loop-count
invariant-loop-count l =
    (vars_from l.text 64 (laws.header_at 0 l.initial.at l.initial.line) ≡ vars_from l.text (64 - l.count)
    (laws.header_at l.count l.at l.line)) × (l.line ≤ l.initial.line + l.count)
