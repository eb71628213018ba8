use Rattle.std.proofs.Common.{arith, sym, ◌∙◌}
use Rattle.steps_speed.proofs.Laws as laws
use Rattle.steps_speed.proofs.run.Goals as goal
use Rattle.steps_speed.proofs.run.Goals.{then-not-is_run, else-not-is_run}

pub loop-k-init : goal.loop-k-init
loop-k-init c = laws.runs_whole _ _ _

pub loop-k-preserved : goal.loop-k-preserved
loop-k-preserved c =
    c.loop-k.invariant
    ∙ laws.runs_on_lem _ c.loop-k.k _ _ _ _ _ (omega arith) c.next-random.ensures c.step-answered.ensures
    (elim c.if-not-is_run.branch [
      | then-not-is_run w ↦
          laws.called_again_lem c.step-answered.result _ c.is_run.ensures _ _ _ w.if-not-is_run.true _ w.inputs.ensures
          (w.answered-is ∙ w.call-answered.ensures)
      | else-not-is_run w ↦ laws.goes_on c.step-answered.result _ c.is_run.ensures _ _ _ w.if-not-is_run.false w.answered-is
    ])

pub returns : goal.returns
returns c = sym (c.loop-k.invariant ∙ laws.runs_done _ c.loop-k.k _ _ (omega arith))
