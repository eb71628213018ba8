use Rattle.std.proofs.Common.{◌∙◌}
use Rattle.construction.specs.Dictionary.{no_item}
use Rattle.report.specs.Same.{same_item, same_dictionary}
use Rattle.report.proofs.Laws as laws
use Rattle.report.proofs.same.same_dictionary.Goals as goal

pub returns-then-a-b : goal.returns-then-a-b
unfolding same_dictionary
returns-then-a-b c =
    let a = c.args in
    laws.alike c.if-a-b.true (c.same_items.ensures ∙ laws.pairs same_item no_item a.a.items a.b.items 32 c.well_formed.0.1.1.1.0.1.0.1 c.well_formed.1.0.1.1.1.0.1.0.1)

pub returns-else-a-b : goal.returns-else-a-b
unfolding same_dictionary
returns-else-a-b c = laws.unlike _ _ _ c.if-a-b.false
