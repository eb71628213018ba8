use Rattle.std.proofs.Common.{◌∙◌}
use Rattle.construction.proofs.Equality.{gate_equality}
use Rattle.report.proofs.same.same_gate.Goals as goal

pub returns : goal.returns
returns c = c.eq.ensures ∙ gate_equality c.args.a c.args.b
