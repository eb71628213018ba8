use Rattle.std.proofs.Common.{ap, arith}
use Rattle.std.proofs.lemmas.Result.{err_from_is_err_and}
use Rattle.construction.specs.Opening.{so_far}
use Rattle.construction.specs.Readings.{Reading}
use Rattle.reader.proofs.Laws as laws
use Rattle.reader.proofs.read_body.Goals as goal

pub returns-in_err-vars : goal.returns-in_err-vars
returns-in_err-vars c =
    let p = err_from_is_err_and c.from_residual.result c.from_residual.ensures.1 in
    rw (p.1, p.2) (laws.vars_refused _ _ _ c.in_err-vars.ensures)

pub read_programs-requires : goal.read_programs-requires
read_programs-requires c =
    omega (
      arith,
      ap (λ (z : Reading). z.line) (laws.contents_read _ c.in_ok-vars.ensures),
      laws.vars_line c.args.text.now
          c.args.variable_count 0 (so_far c.args.contents c.args.at 2),
    )

pub returns-in_err-all : goal.returns-in_err-all
returns-in_err-all c =
    let p = err_from_is_err_and c.from_residual-in_err-all.result c.from_residual-in_err-all.ensures.1 in
    rw (p.1, p.2) (laws.programs_refused _ _ _ c.in_ok-vars.ensures c.in_err-all.ensures)

pub returns-then-all-text : goal.returns-then-all-text
returns-then-all-text c = laws.body_whole _ _ _ c.in_ok-vars.ensures c.in_ok-all.ensures c.if-all-text.true

pub returns-else-all-text : goal.returns-else-all-text
returns-else-all-text c = laws.body_left _ _ _ c.in_ok-vars.ensures c.in_ok-all.ensures c.if-all-text.false
