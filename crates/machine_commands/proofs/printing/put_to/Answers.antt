use Rattle.std.proofs.Common.{arith}
use Rattle.machine_commands.proofs.PrintingLaws as laws
use Rattle.machine_commands.proofs.printing.put_to.Goals as goal

pub returns : goal.returns
returns c =
    laws.put_to _ _ _ (omega arith) c.put_verb-i.ensures c.put_machine-j.ensures
    (rw (← c.first_of.ensures) c.put_number.ensures)
