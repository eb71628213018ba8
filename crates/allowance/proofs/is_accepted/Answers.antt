use Rattle.std.proofs.Common.{arith}
use borrow.Author.Tests.{le-leb, lt-leb}
use Rattle.allowance.specs.Opening.{is_accepted}
use Rattle.allowance.proofs.is_accepted.Goals as goal

pub returns-then-are_ordered : goal.returns-then-are_ordered
unfolding is_accepted
returns-then-are_ordered c =
    let a = c.args in
    rw (
      le-leb 1 a.count (omega arith),
      le-leb a.count 4 (omega arith),
      le-leb 1 a.steps (omega arith),
      le-leb a.steps 100000 (omega arith),
      ← c.opened_quotas-q.ensures,
      ← c.are_ordered.ensures,
      c.if-are_ordered.true,
    ) c.shares_fit.ensures

pub returns-else-are_ordered : goal.returns-else-are_ordered
unfolding is_accepted
returns-else-are_ordered c =
    let a = c.args in
    rw (
      le-leb 1 a.count (omega arith),
      le-leb a.count 4 (omega arith),
      le-leb 1 a.steps (omega arith),
      le-leb a.steps 100000 (omega arith),
      ← c.opened_quotas-q.ensures,
      ← c.are_ordered.ensures,
      c.if-are_ordered.false,
    )

pub returns-then-count-lt1 : goal.returns-then-count-lt1
unfolding is_accepted
returns-then-count-lt1 c = rw (lt-leb 1 c.args.count c.if-count-lt1.true)

pub returns-then-count-gt4 : goal.returns-then-count-gt4
unfolding is_accepted
returns-then-count-gt4 c = let a = c.args in rw (le-leb 1 a.count (omega arith), lt-leb a.count 4 c.if-count-gt4.true)

pub returns-then-steps-lt1 : goal.returns-then-steps-lt1
unfolding is_accepted
returns-then-steps-lt1 c =
    let a = c.args in
    rw (le-leb 1 a.count (omega arith), le-leb a.count 4 (omega arith), lt-leb 1 a.steps c.if-steps-lt1.true)

pub returns-then-steps-gt-MOST_STEPS : goal.returns-then-steps-gt-MOST_STEPS
unfolding is_accepted
returns-then-steps-gt-MOST_STEPS c =
    let a = c.args in
    rw (
      le-leb 1 a.count (omega arith),
      le-leb a.count 4 (omega arith),
      le-leb 1 a.steps (omega arith),
      lt-leb a.steps 100000 c.if-steps-gt-MOST_STEPS.true,
    )
