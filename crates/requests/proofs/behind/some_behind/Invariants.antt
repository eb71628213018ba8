use Rattle.std.proofs.Common.{◌≡◌}
use Rattle.construction.specs.Changes.{some_behind}
use Rattle.requests.proofs.behind.some_behind.Given as goal

abbrev pub invariant-loop-i : goal.invariant-loop-i
invariant-loop-i l = l.behind ≡ some_behind l.controls l.gates_read l.process_count l.number l.i
