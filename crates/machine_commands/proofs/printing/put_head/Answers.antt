use Rattle.machine_commands.proofs.PrintingLaws as laws
use Rattle.machine_commands.proofs.printing.put_head.Goals as goal

pub returns-in-To : goal.returns-in-To
returns-in-To c = laws.put_head_to _ c.in-To.is c.put_to.ensures

pub returns-in-Turn : goal.returns-in-Turn
returns-in-Turn c = laws.put_head_turn _ c.in-Turn.is c.put_word.ensures
