use Rattle.std.proofs.Common.{arith}
use Rattle.machine_commands.proofs.RequestsLaws.{request_inside}
use Rattle.machine_session.proofs.Lines as laws
use Rattle.machine_session.proofs.running.put_lines.Goals as goal

pub loop-state-init : goal.loop-state-init
loop-state-init c = laws.print_loop _ _ _ (omega arith)

pub returns-then-buffer-length-lt-LONGEST : goal.returns-then-buffer-length-lt-LONGEST
returns-then-buffer-length-lt-LONGEST c = laws.stopped c.loop-state.invariant c.loop-state-test.true c.if-buffer-length-lt-LONGEST.true

pub execute-told-requires : goal.execute-told-requires
execute-told-requires c = rw c.request_at-parsed.ensures (request_inside c.args.calls.now _)

pub loop-state-smaller : goal.loop-state-smaller
loop-state-smaller c =
    laws.less c.loop-state.invariant c.loop-state-test.true c.if-buffer-length-lt-LONGEST.false c.request_at-parsed.ensures
    c.execute-told.ensures c.put_line-length.ensures

pub loop-state-preserved : goal.loop-state-preserved
loop-state-preserved c =
    laws.again c.loop-state.invariant c.loop-state-test.true c.if-buffer-length-lt-LONGEST.false c.request_at-parsed.ensures
    c.execute-told.ensures c.put_line-length.ensures c.next_line.ensures

pub returns : goal.returns
returns c = laws.ended c.loop-state.invariant c.loop-state-test.false
