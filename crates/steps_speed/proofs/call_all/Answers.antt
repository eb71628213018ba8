use Rattle.std.proofs.Common.{arith, sym, ◌∙◌}
use Rattle.steps_speed.proofs.Laws as laws
use Rattle.steps_speed.proofs.call_all.Goals as goal

pub loop-process-preserved : goal.loop-process-preserved
loop-process-preserved c =
    c.loop-process.invariant
    ∙ laws.calls_on 8 c.loop-process.process _ _ _ _ (omega arith) c.step-answered.ensures c.inputs.ensures c.call-answered.ensures

pub returns : goal.returns
returns c = sym (c.loop-process.invariant ∙ laws.calls_done 8 c.loop-process.process _ (omega arith))
