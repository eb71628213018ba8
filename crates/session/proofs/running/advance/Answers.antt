use Rattle.commands.proofs.CommandsLaws.{command_inside}
use Rattle.session.proofs.SessionLaws as laws
use Rattle.session.proofs.running.advance.Goals as goal

pub execute-executed-requires : goal.execute-executed-requires
execute-executed-requires c = rw c.command_at-parsed.ensures (command_inside c.args.calls.now _)

pub returns : goal.returns
returns c = laws.advances _ _ c.command_at-parsed.ensures c.execute-executed.ensures c.next_line-line.ensures
