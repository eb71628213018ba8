use Rattle.std.proofs.Common.{◌∙◌, sym}
use Rattle.lent_sweep.proofs.Steps.{turn_refused, turn_accepted}
use Rattle.lent_sweep.proofs.running.turn.Goals as goal

pub returns-then-not-is_accepted : goal.returns-then-not-is_accepted
returns-then-not-is_accepted c =
    turn_refused c.args.calls.now c.args.b.now c.args.l.now c.args.counts c.args.i
    (sym c.is_accepted.ensures ∙ c.if-not-is_accepted.true)

pub returns : goal.returns
returns c =
    turn_accepted c.args.calls.now c.args.b.now c.args.l.now c.args.counts c.args.i
    (sym c.is_accepted.ensures ∙ c.if-not-is_accepted.false) c.requires.0 c.advance.ensures.0
    c.advance.ensures.1 c.answer_in-answer.ensures c.call_again.ensures c.with_answer.ensures
