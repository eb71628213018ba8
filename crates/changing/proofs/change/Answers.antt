use Rattle.std.proofs.Common.{refl, ◌∙◌}
use Rattle.requests.proofs.Arrays as arrays
use Rattle.requests.proofs.Judged.{judged_with, taken_with}
use Rattle.changing.proofs.Laws as laws
use Rattle.changing.proofs.change.Goals as goal

pub returns-in-Err : goal.returns-in-Err
returns-in-Err c =
    let judged = judged_with _ _ c.judge_change-judged.ensures.taken ∙ c.judge_change-judged.ensures.judged in
    laws.change_refused c.args.card c.args.program c.args.from _ _ c.most_weight.ensures _
    c.read_change-read.ensures _ c.some_behind-behind.ensures _ (rw (← c.in-Err.ensures) at judged) refl

pub returns-in-Ok : goal.returns-in-Ok
returns-in-Ok c =
    let judged = judged_with _ _ c.judge_change-judged.ensures.taken ∙ c.judge_change-judged.ensures.judged in
    let taken = taken_with c.judge_change-judged.result c.read_change-read.result in
    laws.change_taken c.args.card c.args.program c.args.from _ _ c.most_weight.ensures _ c.read_change-read.ensures
    _ c.some_behind-behind.ensures _ (rw (← c.in-Ok.ensures) at judged) refl (rw (← c.in-Ok.ensures) at taken) _
    (laws.changed c.args.card (arrays.full_arrays c.args.card _ c.well_formed.0).later c.args.program
    c.args.from _ _)
