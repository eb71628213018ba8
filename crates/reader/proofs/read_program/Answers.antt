use Rattle.std.proofs.Common.{sym, ◌∙◌, arith}
use Rattle.std.proofs.lemmas.Result.{err_from_is_err_and}
use Rattle.construction.proofs.Text.Lines.{sheet_read}
use Rattle.construction.specs.Opening.{read_program}
use Rattle.reader.proofs.Laws as laws
use Rattle.reader.proofs.read_program.Goals as goal

pub returns-in_default : goal.returns-in_default
unfolding read_program
returns-in_default c = rw (c.refused.ensures, ← c.sheet_line-read.ensures, c.in_default.is)

pub read_lines-requires : goal.read_lines-requires
read_lines-requires c =
    omega (
      arith,
      (sheet_read c.args.text.now c.args.at c.in-Ok.line.value c.in-Ok.line.next (sym c.sheet_line-read.ensures ∙ c.in-Ok.is)).fits,
    )

pub returns-in_err-read : goal.returns-in_err-read
returns-in_err-read c =
    let p = err_from_is_err_and c.from_residual.result c.from_residual.ensures.1 in
    rw (p.1, p.2)
    (laws.lines_refused _ c.args.most _ _ c.args.number (sym c.sheet_line-read.ensures ∙ c.in-Ok.is) c.in_err-read.ensures)

pub returns-then-most-weight : goal.returns-then-most-weight
returns-then-most-weight c =
    laws.heavy _ _ _ _ _ (sym c.sheet_line-read.ensures ∙ c.in-Ok.is) c.in_ok-read.ensures (omega (arith, c.weight.ensures))

pub returns : goal.returns
returns c =
    laws.light _ _ _ _ _ (sym c.sheet_line-read.ensures ∙ c.in-Ok.is) c.in_ok-read.ensures (omega (arith, c.weight.ensures))
