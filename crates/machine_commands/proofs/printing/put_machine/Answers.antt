use Rattle.machine_commands.proofs.PrintingLaws as laws
use Rattle.machine_commands.proofs.printing.put_machine.Goals as goal

pub returns-then-is_malformed : goal.returns-then-is_malformed
returns-then-is_malformed c = laws.put_none _ _ c.is_malformed.ensures c.if-is_malformed.true c.put_word.ensures

pub returns : goal.returns
returns c = laws.put_some _ _ c.is_malformed.ensures c.if-is_malformed.false c.put_number.ensures
