use Rattle.std.proofs.Common.{refl, ◌∙◌}
use Rattle.requests.proofs.Judged.{judged_with, taken_with}
use Rattle.lent_card.proofs.Judging as judging
use Rattle.lent_card.proofs.changing.change.Goals as goal

pub returns-in-Err : goal.returns-in-Err
returns-in-Err c =
    let a = c.args in
    let judged = judged_with _ _ c.judge_change_in-judged.ensures.taken ∙ c.judge_change_in-judged.ensures.judged in
    let refused = rw (← c.in-Err.ensures) at judged in (
      judging.change_told _ a.program a.from _ c.variable_count.ensures c.room.ensures c.read_change-read.ensures refused,
      judging.change_refused _ a.program a.from _ c.variable_count.ensures c.room.ensures c.read_change-read.ensures
          refused refl,
    )

pub returns-in-Ok : goal.returns-in-Ok
returns-in-Ok c =
    let a = c.args in
    let judged = judged_with _ _ c.judge_change_in-judged.ensures.taken ∙ c.judge_change_in-judged.ensures.judged in
    let had = taken_with c.judge_change_in-judged.result c.read_change-read.result in
    let taken = rw (← c.in-Ok.ensures) at judged in (
      judging.change_told _ a.program a.from _ c.variable_count.ensures c.room.ensures c.read_change-read.ensures taken,
      judging.change_taken _ a.program a.from _ c.variable_count.ensures c.room.ensures c.read_change-read.ensures
          taken refl (rw (← c.in-Ok.ensures) at had) c.narrow.ensures c.put_change.ensures,
    )
