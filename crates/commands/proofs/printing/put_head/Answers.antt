use Rattle.std.proofs.Common.{arith}
use Rattle.commands.proofs.PrintingLaws as laws
use Rattle.commands.proofs.printing.put_head.Goals as goal

pub returns : goal.returns
returns c =
    laws.put_head_lem _ _ (omega arith) c.put_verb-next.ensures (rw (← c.first_of.ensures) c.put_number.ensures)
