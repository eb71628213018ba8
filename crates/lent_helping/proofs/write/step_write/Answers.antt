use Rattle.lent_helping.proofs.Taken as taken
use Rattle.lent_helping.proofs.write.step_write.Goals as goal

pub returns : goal.returns
returns c =
    taken.written_in_lem (c.args.b.now) (c.args.l.now) (c.args.i) c.last_gate-gate.ensures c.control.ensures
    c.writing-writing.ensures c.record.ensures c.write-swapped.ensures c.put_swapped.ensures
    c.put_control.ensures c.outcome.ensures
