use Rattle.std.proofs.Common.{◌∙◌}
use Rattle.construction.proofs.Equality.{record_equality}
use Rattle.report.proofs.same.same_record.Goals as goal

pub returns : goal.returns
returns c = c.eq.ensures ∙ record_equality c.args.a c.args.b
