use Rattle.std.proofs.Common.{arith}
use Rattle.commands.proofs.CommandsLaws.{command_inside, command_past}
use Rattle.lent_session.proofs.run.Goals as goal

pub put_command-length-requires : goal.put_command-length-requires
put_command-length-requires g c = rw c.command_at-parsed.ensures (command_inside c.args.calls.now _)

pub loop-at-smaller : goal.loop-at-smaller
loop-at-smaller g c =
    let h = rw (← c.command_at-parsed.ensures) at (command_past c.args.calls.now c.loop-at.at c.loop-at-test.true) in omega (arith, c.loop-at-test.true)
