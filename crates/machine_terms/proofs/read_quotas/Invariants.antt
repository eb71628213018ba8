use Rattle.std.proofs.Common.{◌-◌, ◌≡◌}
use Rattle.machine_terms.specs.Terms.{quotas_from, quotas_read}
use Rattle.machine_terms.proofs.read_quotas.Given as goal

abbrev pub invariant-loop-k : goal.invariant-loop-k
invariant-loop-k l = quotas_from l.text (l.count - l.k) l.k l.at l.quotas ≡ quotas_read l.text l.start l.count
