use Rattle.std.proofs.Common.{◌∙◌}
use Rattle.construction.specs.Instructions.{no_line}
use Rattle.report.specs.Same.{same_line, same_program}
use Rattle.report.proofs.Laws as laws
use Rattle.report.proofs.same.same_program.Goals as goal

pub returns-then-a-b : goal.returns-then-a-b
unfolding same_program
returns-then-a-b c =
    let a = c.args in
    laws.alike c.if-a-b.true (c.same_lines.ensures ∙ laws.pairs same_line no_line a.a.lines a.b.lines 32 c.well_formed.0.1.1.1.0.1.0.1 c.well_formed.1.0.1.1.1.0.1.0.1)

pub returns-else-a-b : goal.returns-else-a-b
unfolding same_program
returns-else-a-b c = laws.unlike _ _ _ c.if-a-b.false
