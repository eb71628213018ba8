use Rattle.std.proofs.Common.{◌∙◌, refl}
use Rattle.report.specs.Same.{same_starts}
use Rattle.report.proofs.Laws as laws
use Rattle.report.proofs.same.same_starts.Goals as goal

pub returns : goal.returns
unfolding same_starts
returns c = c.eq.ensures ∙ laws.arrays _ _ 0 (λ x y. refl) c.args.a c.args.b 64 c.well_formed.0.1.0.1 c.well_formed.1.0.1.0.1
