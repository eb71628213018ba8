use Rattle.std.proofs.Common.{◌∙◌}
use Rattle.construction.specs.declared.accesses.Label.TheVariants.{Idle}
use Rattle.construction.proofs.Equality.{label_equality}
use Rattle.machine.proofs.places.is_idle.Goals as goal

pub returns : goal.returns
returns c = c.eq.ensures ∙ label_equality c.args.place Idle
