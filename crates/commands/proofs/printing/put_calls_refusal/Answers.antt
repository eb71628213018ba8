use Rattle.std.proofs.Common.{arith}
use Rattle.commands.proofs.PrintingLaws as laws
use Rattle.commands.proofs.printing.put_calls_refusal.Goals as goal

pub returns : goal.returns
returns c =
    laws.put_calls_refusal (omega arith) c.put_word-next.ensures c.put_refusal-end.ensures c.put_byte.ensures
