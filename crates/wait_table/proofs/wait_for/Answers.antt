use Rattle.std.proofs.Common.{arith}
use Rattle.wait_table.proofs.Texts as laws
use Rattle.wait_table.proofs.wait_for.Goals as goal
use Rattle.wait_table.proofs.wait_for.Goals.{then-process_count-eq0-via-then-process_count-eq0, then-process_count-eq0-via-else-process_count-eq0+then-process_count-gt8, then-process_count-eq0-via-else-process_count-eq0+else-process_count-gt8+then-weight-gt32}

pub returns-then-process_count-eq0 : goal.returns-then-process_count-eq0
returns-then-process_count-eq0 c =
    elim c.then-process_count-eq0.branch [
      | then-process_count-eq0-via-then-process_count-eq0 w ↦ laws.no_process _ _ w.if-process_count-eq0.true
      | then-process_count-eq0-via-else-process_count-eq0+then-process_count-gt8 w ↦
          laws.many_processes _ _ (omega arith) w.if-process_count-gt8.true
      | then-process_count-eq0-via-else-process_count-eq0+else-process_count-gt8+then-weight-gt32 w ↦
          laws.too_heavy_lem _ _ (omega arith) w.if-process_count-gt8.false w.if-weight-gt32.true
    ]

pub returns : goal.returns
returns c = laws.read_there _ _ (omega arith) c.if-process_count-gt8.false c.if-weight-gt32.false c.entry.ensures
