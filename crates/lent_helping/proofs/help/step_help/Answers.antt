use Rattle.lent_helping.proofs.Taken as taken
use Rattle.lent_helping.proofs.help.step_help.Goals as goal

pub returns-then-helps : goal.returns-then-helps
returns-then-helps c =
    taken.begun_in_lem (c.args.b.now) (c.args.i) c.last_gate-gate.ensures c.holder_of.ensures
    c.announcement-cell.ensures c.helps.ensures c.if-helps.true c.put_begun.ensures

pub returns-else-helps : goal.returns-else-helps
returns-else-helps c =
    taken.passed_in (c.args.b.now) (c.args.i) c.last_gate-gate.ensures c.holder_of.ensures
    c.announcement-cell.ensures c.helps.ensures c.if-helps.false c.put_passed.ensures
