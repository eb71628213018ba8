use Rattle.std.proofs.Common.{refl}
use Rattle.std.proofs.lemmas.Result.{err_from_is_err_and}
use Rattle.shared_processor.proofs.Judging as laws
use Rattle.shared_processor.proofs.stepping.judge.Goals as goal

pub returns-in_default : goal.returns-in_default
returns-in_default c =
    let a = c.args in laws.absent a.a a.stride a.blocks.now a.loans.now a.m a.process c.in_default.ensures

pub returns-in_err-verdict : goal.returns-in_err-verdict
returns-in_err-verdict c =
    let a = c.args in
    let p = err_from_is_err_and c.from_residual.result c.from_residual.ensures.1 in
    rw (p.1, p.2)
    (laws.own a.a a.stride a.blocks.now a.loans.now a.m a.process c.in-Some.ensures.0 c.in-Some.ensures.1
    c.in-Some.ensures.2 c.part_of-loan.ensures.start c.part_of-loan.ensures.end
    (c.in_err-verdict.ensures {u = tt}) refl)

pub returns : goal.returns
returns c =
    let a = c.args in
    rw c.ok_or.ensures.value
    (laws.last a.a a.stride a.blocks.now a.loans.now a.m a.process c.in-Some.ensures.0 c.in-Some.ensures.1
    c.in-Some.ensures.2 c.part_of-loan.ensures.start c.part_of-loan.ensures.end
    (c.in_ok-verdict.ensures {u = tt}) refl c.allow.ensures)
