use Rattle.commands.proofs.CommandsLaws.{command_inside}
use Rattle.session.proofs.SessionLaws as laws
use Rattle.session.proofs.running.put_lines.Goals as goal

pub execute-executed-requires : goal.execute-executed-requires
execute-executed-requires c = rw c.command_at-parsed.ensures (command_inside c.args.calls.now _)

pub returns-then-buffer-end : goal.returns-then-buffer-end
returns-then-buffer-end c =
    laws.stopped c.loop-state.invariant c.loop-state-test.true c.command_at-parsed.ensures
    c.execute-executed.ensures c.put_line-end.ensures c.if-buffer-end.true

pub loop-state-smaller : goal.loop-state-smaller
loop-state-smaller c =
    laws.less c.loop-state.invariant c.loop-state-test.true c.command_at-parsed.ensures c.execute-executed.ensures
    c.put_line-end.ensures

pub loop-state-preserved : goal.loop-state-preserved
loop-state-preserved c =
    laws.again c.loop-state.invariant c.loop-state-test.true c.command_at-parsed.ensures c.execute-executed.ensures
    c.put_line-end.ensures c.next_line-line.ensures c.if-buffer-end.false

pub returns : goal.returns
returns c = laws.ended c.loop-state.invariant c.loop-state-test.false
