use Rattle.std.proofs.Common.{◌∙◌, get_or}
use Rattle.construction.specs.Cells.{open_record}
use Rattle.construction.proofs.Equality.{record_equality}
use Rattle.lent_demo.proofs.same_at.Goals as goal

pub returns : goal.returns
returns c = c.eq.ensures ∙ record_equality (get_or c.args.a c.args.k (open_record 0)) (get_or c.args.b c.args.k (open_record 0))
