use Rattle.std.proofs.Common.{◌∙◌}
use Rattle.construction.proofs.Equality.{announcement_equality}
use Rattle.report.proofs.same.same_announcement.Goals as goal

pub returns : goal.returns
returns c = c.eq.ensures ∙ announcement_equality c.args.a c.args.b
