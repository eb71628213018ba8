use Rattle.std.proofs.Common.{◌∙◌}
use Rattle.report.specs.Same.{same_records}
use Rattle.construction.proofs.Equality.{record_equality}
use Rattle.construction.specs.Cells.{open_record}
use Rattle.report.proofs.Laws as laws
use Rattle.report.proofs.same.same_records.Goals as goal

pub returns : goal.returns
unfolding same_records
returns c = c.eq.ensures ∙ laws.arrays _ _ (open_record 0) record_equality c.args.a c.args.b 64 c.well_formed.0.1.0.1 c.well_formed.1.0.1.0.1
