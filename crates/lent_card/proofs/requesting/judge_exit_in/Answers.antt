use Rattle.lent_card.proofs.Judging as judging
use Rattle.lent_card.proofs.requesting.judge_exit_in.Goals as goal

pub returns : goal.returns
returns c =
    judging.exit_judged_lem _ _ c.narrow.ensures c.control.ensures c.process_count.ensures c.judge_exit.ensures
