use Rattle.allowance.proofs.Fours.{opened_four}
use Rattle.allowance.proofs.opened_quotas.Goals as goal

pub returns : goal.returns
returns c =
    opened_four c.args.quotas c.well_formed.1.0.1.0.1 c.args.count c.opened_quota.ensures c.opened_quota-2.ensures
    c.opened_quota-3.ensures c.opened_quota-4.ensures
