use Rattle.dump_writer.proofs.LineLaws as laws
use Rattle.dump_writer.proofs.changes.put_changes.Goals as goal

pub loop-v-preserved : goal.loop-v-preserved
loop-v-preserved c =
    let a = c.args in
    let l = c.loop-v in
    laws.telling_turn a.time a.count l.v a.before a.after c.loop-v-test.true l.invariant
    (rw (← c.value_at.ensures, ← c.value_at-in-loop-v.ensures) c.put_change-now.ensures)

pub returns : goal.returns
returns c =
    let a = c.args in
    let l = c.loop-v in laws.telling_end a.time a.count l.v a.before a.after c.loop-v-test.false l.invariant
