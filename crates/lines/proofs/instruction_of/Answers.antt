use Rattle.construction.specs.Instructions.{CodeRow, no_row, codes}
use lib.ListN.{get_or-map}
use Rattle.lines.proofs.instruction_of.Goals as goal

pub returns-then-code-lt15 : goal.returns-then-code-lt15
returns-then-code-lt15 c =
    let a = c.args in get_or-map (λ (r : CodeRow). r.instruction a.a a.b a.c) codes a.code no_row
