use Rattle.lent_card.proofs.Judging as judging
use Rattle.lent_card.proofs.requesting.judge_call_in.Goals as goal

pub returns : goal.returns
returns c =
    judging.call_judged_lem _ _ _ c.narrow.ensures c.control.ensures c.process_count.ensures
    c.program_count.ensures c.judge_call.ensures
