use Rattle.std.proofs.Common.{take, ◌+◌, ◌*◌, ◌-◌}
use Rattle.listing.specs.Prefixes.{longest, capacity}
use Rattle.listing.proofs.Recursion as laws
use Rattle.listing.proofs.runs.+put_run_put_runs.Given as goal

abbrev pub decreases-put_run : goal.decreases-put_run
decreases-put_run l = 2 * l.left

abbrev pub invariant-put_runs-loop-k : goal.invariant-put_runs-loop-k
invariant-put_runs-loop-k l =
    laws.Turning (laws.runs_of l.left l.controls l.count (take l.x l.initial.numbers) (take l.y l.initial.answers))
    l.count (capacity (l.left - 1) (longest l.left l.x l.y)) l.initial.buffer l.at l.initial.numbers l.x
    l.initial.answers l.y l.buffer l.i l.k l.numbers l.answers

abbrev pub decreases-put_runs : goal.decreases-put_runs
decreases-put_runs l = 2 * l.left + 1
