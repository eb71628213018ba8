use Rattle.std.proofs.Common.{arith}
use Rattle.machine_commands.proofs.PrintingLaws as laws
use Rattle.machine_commands.proofs.printing.put_card_refusal.Goals as goal

pub returns : goal.returns
returns c =
    laws.put_card_refusal _ _ (omega arith) c.put_number-next.ensures c.put_verdict-end.ensures c.put_byte.ensures
