use Rattle.std.proofs.Common.{length-set, ap, add-one, sub-eq-zero_of_le, arith}
use Rattle.std.proofs.lemmas.Result.{err_from_is_err_and}
use Rattle.construction.specs.Readings.{ProgramReading}
use Rattle.construction.specs.Opening.{programs_from}
use Rattle.construction.proofs.Text.Given as given
use Rattle.reader.proofs.Laws as laws
use Rattle.reader.proofs.read_programs.Goals as goal

pub returns-in_err-read : goal.returns-in_err-read
unfolding programs_from
returns-in_err-read c =
    let p = err_from_is_err_and c.from_residual.result c.from_residual.ensures.1 in
    let g = given.given_err _ _ c.in_err-read.ensures in
    rw (p.1, p.2, c.loop-k.invariant.0, laws.one_less _ _ c.loop-k-test.true, g)

pub loop-k-preserved : goal.loop-k-preserved
unfolding programs_from
loop-k-preserved c =
    let read = laws.program_read _ c.in_ok-read.ensures in (
      rw (c.loop-k.invariant.0, laws.one_less _ _ c.loop-k-test.true, read, add-one),
      omega (
        arith,
        ap (λ (y : ProgramReading). y.line) read,
        laws.program_line c.args.contents.variable_count 32 c.args.text.now c.loop-k.at c.loop-k.number,
      ),
      simp length-set (c.loop-k.invariant.2),
    )

pub returns : goal.returns
unfolding programs_from
returns c = rw (c.loop-k.invariant.0, sub-eq-zero_of_le c.loop-k-test.false)
