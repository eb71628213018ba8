use Rattle.std.proofs.Common.{arith, refl, sym}
use Rattle.allowance.proofs.Fours.{allowed_fits}
use Rattle.allowance.proofs.Rooms.{quotas_four}
use lib.Seq.{set_out}
use Rattle.allowance.specs.Allowing.{quota_at, with_step, spend}
use Rattle.allowance.proofs.spent.Goals as goal

pub overflow_add-a : goal.overflow_add-a
overflow_add-a c =
    omega (arith, allowed_fits c.args.a c.args.m 18446744073709551615 c.requires (omega arith) (omega arith))

pub returns-then-m-lt4 : goal.returns-then-m-lt4
unfolding spend
returns-then-m-lt4 c = refl

pub returns-else-m-lt4 : goal.returns-else-m-lt4
unfolding spend
returns-else-m-lt4 c =
    let a = c.args.a in
    λ i. record {
      steps = a.steps;
      count = a.count;
      quotas = sym (set_out a.quotas c.args.m (with_step (quota_at a
          c.args.m)) (omega (arith, quotas_four a _ c.well_formed.0, c.if-m-lt4.false))) i;
    }
