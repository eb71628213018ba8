use Rattle.allowance.specs.Opening.{is_accepted, opened, allowance_from}
use Rattle.machine_terms.specs.Terms.{refused}
use Rattle.machine_terms.proofs.refused_with.Goals as goal

pub returns : goal.returns
unfolding refused allowance_from is_accepted opened
returns c = rw c.no_machines.ensures
