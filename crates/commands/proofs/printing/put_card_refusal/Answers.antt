use Rattle.std.proofs.Common.{arith}
use Rattle.commands.proofs.PrintingLaws as laws
use Rattle.commands.proofs.printing.put_card_refusal.Goals as goal

pub returns : goal.returns
returns c =
    laws.put_card_refusal _ (omega arith) c.put_word-next.ensures c.put_verdict-end.ensures c.put_byte.ensures
