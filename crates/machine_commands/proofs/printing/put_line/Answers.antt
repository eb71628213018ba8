use Rattle.std.proofs.Common.{arith}
use Rattle.machine_commands.proofs.PrintingLaws as laws
use Rattle.machine_commands.proofs.printing.put_line.Goals as goal

pub returns : goal.returns
returns c =
    laws.put_line _ _ _ _ (omega arith) c.put_head-next.ensures c.put_report-told.ensures c.put_answer-end.ensures
    c.put_byte.ensures
