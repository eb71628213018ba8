use Rattle.std.proofs.Common.{arith, sym, ap, ◌∙◌}
use Rattle.construction.specs.declared.answers.Answered.{Answered}
use Rattle.executions.proofs.Runs.{called_run}
use Rattle.listing.proofs.Tests as laws
use Rattle.listing.proofs.starting.call_all.Goals as goal

pub loop-k-preserved : goal.loop-k-preserved
loop-k-preserved c =
    sym
    (laws.called_turn c.args.calls _ _ _ _ c.loop-k-test.true c.request_at-request.ensures
    (ap (λ (r : Answered). r.card) c.call.ensures)) ∙ c.loop-k.invariant

pub returns : goal.returns
returns c =
    sym
    (called_run c.args.card c.args.calls ∙ sym c.loop-k.invariant ∙ laws.called_none c.args.calls _ _ _
    (omega arith))
