use Rattle.std.proofs.Common.{arith, lt-ltb, le-ltb}
use Rattle.allowance.proofs.Fours.{allowed_within, allowed_beyond, allowed_no}
use Rattle.allowance.proofs.has_allowance.Goals as goal

pub returns-then-q : goal.returns-then-q
returns-then-q c =
    let q = c.quota_at-q.result in
    rw (lt-ltb q.used q.share c.if-q.true) (allowed_within c.args.a c.args.m _ c.quota_at-q.ensures c.if-q.true)

pub returns-then-q-2 : goal.returns-then-q-2
returns-then-q-2 c =
    allowed_beyond c.args.a c.args.m _ c.quota_at-q.ensures _ c.has_room.ensures (omega arith) (omega arith)

pub returns-else-q-2 : goal.returns-else-q-2
returns-else-q-2 c =
    let q = c.quota_at-q.result in
    rw (le-ltb q.used q.ceiling (omega arith)) (allowed_no c.args.a c.args.m _ c.quota_at-q.ensures (omega arith) (omega arith))
