use Rattle.lent_helping.proofs.Taken as taken
use Rattle.lent_helping.proofs.note.step_note.Goals as goal

pub returns-then-gate-cell : goal.returns-then-gate-cell
returns-then-gate-cell c =
    taken.newer_in (c.args.b.now) (c.args.l.now) (c.args.i) c.last_gate-gate.ensures c.control-v.ensures
    c.record-cell.ensures c.if-gate-cell.true c.put_newer.ensures

pub returns-else-gate-cell : goal.returns-else-gate-cell
returns-else-gate-cell c =
    taken.noted_in (c.args.b.now) (c.args.l.now) (c.args.i) c.last_gate-gate.ensures c.control-v.ensures
    c.record-cell.ensures c.if-gate-cell.false c.item_of.ensures c.put_item.ensures
