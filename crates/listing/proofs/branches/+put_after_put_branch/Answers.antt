use Rattle.std.proofs.Common.{rules, arith, refl, ◌-◌}
use Rattle.listing.proofs.Running as running
use Rattle.listing.specs.Prefixes.{longest, capacity}
use Rattle.requests.proofs.Arrays as arrays
use Rattle.executions.specs.Listings.{text_after}
use Rattle.listing.proofs.Recursion as laws
use Rattle.listing.proofs.branches.+put_after_put_branch.Goals as goal

pub put_after-returns-then-has_ended : goal.put_after-returns-then-has_ended
put_after-returns-then-has_ended t c =
    laws.ended_lines c.args.card c.args.left c.has_ended.ensures c.if-has_ended.true c.put_line.ensures

pub put_after-loop-k-preserved-then-runs_on : goal.put_after-loop-k-preserved-then-runs_on
put_after-loop-k-preserved-then-runs_on t c =
    laws.turning_turn (laws.branches_series c.args.card c.args.left _ _) c.args.card.process_count
    (capacity (c.args.left - 1) (longest c.args.left c.args.x c.args.y)) _ _ _ _ _ _ c.loop-k.invariant
    (laws.branch_kept c.args.card c.args.left c.loop-k.k c.loop-k.invariant.digits c.loop-k.invariant.fields)
    c.loop-k-test.true
    (laws.runs_branch_lines c.args.left c.args.card c.loop-k.k
    (laws.steps_left c.args.card c.args.left c.has_ended.ensures c.if-has_ended.false) (laws.turning_holds
    (laws.branches_series c.args.card c.args.left _ _) c.args.card.process_count (capacity (c.args.left - 1)
    (longest c.args.left c.args.x c.args.y)) _ _ _ _ _ _ c.loop-k.invariant c.requires)
    (arrays.full_arrays c.args.card _ c.well_formed.1.1.1.0).controls
    (running.limit_fits c.args.card _ c.well_formed.1.1.1.0) c.loop-k-test.true c.runs_on.ensures
    c.if-runs_on.true c.put_run-i.ensures) (search rules) (search rules)

pub put_after-loop-k-preserved : goal.put_after-loop-k-preserved
put_after-loop-k-preserved t c =
    laws.turning_turn (laws.branches_series c.args.card c.args.left _ _) c.args.card.process_count
    (capacity (c.args.left - 1) (longest c.args.left c.args.x c.args.y)) _ _ _ _ _ _ c.loop-k.invariant
    (laws.branch_kept c.args.card c.args.left c.loop-k.k c.loop-k.invariant.digits c.loop-k.invariant.fields)
    c.loop-k-test.true c.put_branch-i.ensures (search rules) (search rules)

pub put_after-returns : goal.put_after-returns
put_after-returns t c =
    laws.more_lines c.args.card c.args.left c.has_ended.ensures c.if-has_ended.false
    (laws.turning_end (laws.branches_series c.args.card c.args.left _ _) c.args.card.process_count
    (capacity (c.args.left - 1) (longest c.args.left c.args.x c.args.y)) _ _ _ _ _ _ c.loop-k.invariant
    c.requires.few c.loop-k-test.false)

pub put_branch-put_after-requires : goal.put_branch-put_after-requires
put_branch-put_after-requires t c = (
  omega (arith, c.decreases, c.requires.0),
  laws.branch_holds c.args.card c.args.k c.step-stepped.ensures c.is_refused.ensures
      (λ d z w. text_after (c.args.left - 1) d z w) (c.args.left - 1) c.args.left _ _ _ _ c.requires.1
      c.requires.0 c.if-is_refused.false c.put_decimal-i.ensures c.put_answer-j.ensures.0
      c.put_answer-j.ensures.1 refl,
)

pub put_branch-returns : goal.put_branch-returns
put_branch-returns t c =
    laws.branch_accepted c.args.card c.args.k c.step-stepped.ensures c.is_refused.ensures
    (λ d z w. text_after (c.args.left - 1) d z w) (c.args.left - 1) c.args.left _ _ _ _ c.requires.1
    c.requires.0 c.if-is_refused.false c.put_decimal-i.ensures c.put_answer-j.ensures.0 c.put_answer-j.ensures.1
    c.put_after.ensures
