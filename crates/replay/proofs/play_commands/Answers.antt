use Rattle.std.proofs.Common.{arith}
use Rattle.commands.proofs.CommandsLaws.{command_past}
use Rattle.replay.proofs.play_commands.Goals as goal

pub loop-at-smaller : goal.loop-at-smaller
loop-at-smaller g c =
    let h = rw (← c.command_at-parsed.ensures) at (command_past c.args.calls.now c.loop-at.at c.loop-at-test.true) in omega (arith, c.loop-at-test.true)
