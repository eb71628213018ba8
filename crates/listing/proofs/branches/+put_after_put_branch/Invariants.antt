use Rattle.std.proofs.Common.{take, ◌+◌, ◌*◌, ◌-◌}
use Rattle.listing.specs.Prefixes.{longest, capacity}
use Rattle.listing.proofs.Recursion as laws
use Rattle.listing.proofs.branches.+put_after_put_branch.Given as goal

abbrev pub invariant-put_after-loop-k : goal.invariant-put_after-loop-k
invariant-put_after-loop-k l =
    laws.Turning (laws.branches_of l.card l.left (take l.x l.initial.numbers) (take l.y l.initial.answers))
    l.card.process_count (capacity (l.left - 1) (longest l.left l.x l.y)) l.initial.buffer l.at
    l.initial.numbers l.x l.initial.answers l.y l.buffer l.i l.k l.numbers l.answers

abbrev pub decreases-put_after : goal.decreases-put_after
decreases-put_after l = 2 * l.left + 1

abbrev pub decreases-put_branch : goal.decreases-put_branch
decreases-put_branch l = 2 * l.left
