use Rattle.std.proofs.Common.{sym, ◌∙◌, arith}
use Rattle.commands.proofs.CommandsLaws as laws
use Rattle.commands.proofs.reading.lines_end.Goals as goal

pub returns-then-calls-end : goal.returns-then-calls-end
returns-then-calls-end c = sym (c.loop.invariant ∙ laws.lines_none _ _ _ c.if-calls-end.true)

pub loop-preserved : goal.loop-preserved
loop-preserved c = rw c.line_end-end.ensures (c.loop.invariant ∙ laws.lines_step _ _ _ c.args.calls.now (omega arith))

pub returns : goal.returns
returns c = sym (c.loop.invariant ∙ laws.lines_last _ _ _ _ (omega arith))
