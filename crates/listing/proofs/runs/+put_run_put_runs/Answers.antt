use Rattle.std.proofs.Common.{rules, arith, ◌-◌}
use Rattle.listing.specs.Prefixes.{longest, capacity}
use Rattle.listing.proofs.Recursion as laws
use Rattle.listing.proofs.runs.+put_run_put_runs.Goals as goal

pub put_run-put_runs-requires : goal.put_run-put_runs-requires
put_run-put_runs-requires t c = (
  omega (arith, c.decreases, c.requires.0),
  laws.run_holds c.args.controls c.args.k c.args.left c.args.count _ _ _ _ c.is_idle_at.ensures c.requires.2
      c.requires.1 c.requires.0 c.if-is_idle_at.false c.put_decimal-i.ensures c.put_answer-j.ensures.0
      c.put_answer-j.ensures.1,
)

pub put_run-returns : goal.put_run-returns
put_run-returns t c =
    laws.run_busy c.args.controls c.args.k c.args.left c.args.count _ _ _ _ c.is_idle_at.ensures c.requires.2
    c.requires.1 c.requires.0 c.if-is_idle_at.false c.put_decimal-i.ensures c.put_answer-j.ensures.0
    c.put_answer-j.ensures.1 c.put_runs.ensures

pub put_runs-returns-then-left-eq0 : goal.put_runs-returns-then-left-eq0
put_runs-returns-then-left-eq0 t c =
    laws.runs_line c.args.left c.args.controls c.args.count _ _ _ _ c.if-left-eq0.true c.put_line.ensures

pub put_runs-loop-k-preserved : goal.put_runs-loop-k-preserved
put_runs-loop-k-preserved t c =
    laws.turning_turn (laws.runs_series c.args.left c.args.controls c.args.count _ _) c.args.count
    (capacity (c.args.left - 1) (longest c.args.left c.args.x c.args.y)) _ _ _ _ _ _ c.loop-k.invariant
    (laws.run_kept c.args.left c.args.controls c.args.count c.loop-k.k c.loop-k.invariant.digits
    c.loop-k.invariant.fields) c.loop-k-test.true c.put_run-i.ensures (search rules) (search rules)

pub put_runs-returns : goal.put_runs-returns
put_runs-returns t c =
    laws.runs_lines c.args.left c.args.controls c.args.count c.if-left-eq0.false
    (laws.turning_end (laws.runs_series c.args.left c.args.controls c.args.count _ _) c.args.count
    (capacity (c.args.left - 1) (longest c.args.left c.args.x c.args.y)) _ _ _ _ _ _ c.loop-k.invariant
    c.requires.few c.loop-k-test.false)
