use Rattle.std.proofs.Common.{refl, arith}
use Rattle.std.proofs.lemmas.Result.{err_from_is_err_and}
use Rattle.listing.proofs.Answers as laws
use Rattle.listing.proofs.list.Goals as goal

pub returns-in_err-size : goal.returns-in_err-size
returns-in_err-size c =
    let p = err_from_is_err_and c.from_residual.result c.from_residual.ensures.1 in
    rw (p.1, p.2) (laws.listed_refused c.args.card c.args.calls c.args.length _ c.in_err-size.ensures refl)

pub returns-then-size-buffer : goal.returns-then-size-buffer
returns-then-size-buffer c =
    laws.listed_short c.args.card c.args.calls c.args.length _ c.in_ok-size.ensures refl c.if-size-buffer.true

pub overflow_cast-length : goal.overflow_cast-length
overflow_cast-length c =
    let F = laws.few_processes c.args.card c.args.calls c.args.length c.reopen-opened.ensures
    c.call_all-start.ensures
    (laws.said c.args.card c.args.calls c.args.length c.in_ok-size.ensures refl).1 in
    omega (arith, F.1)

pub put_listing-requires : goal.put_listing-requires
put_listing-requires c =
    laws.few_processes c.args.card c.args.calls c.args.length c.reopen-opened.ensures c.call_all-start.ensures
    (laws.said c.args.card c.args.calls c.args.length c.in_ok-size.ensures refl).1

pub returns : goal.returns
returns c =
    laws.listed_fits c.args.card c.args.calls c.args.length _ c.in_ok-size.ensures refl
    c.reopen-opened.ensures c.call_all-start.ensures c.if-size-buffer.false c.put_listing.ensures.0
