use Rattle.std.proofs.Common.{arith}
use Rattle.dump_writer.proofs.LineLaws as laws
use Rattle.dump_writer.proofs.changes.put_change.Goals as goal

pub returns-then-before-after : goal.returns-then-before-after
returns-then-before-after c =
    let a = c.args in
    laws.change_same _ _ a.told a.time a.variable a.before a.after (omega arith) c.if-before-after.true

pub returns : goal.returns
returns c =
    let a = c.args in
    laws.change_other (omega arith) a.told a.time a.variable a.before a.after c.if-before-after.false
    c.put_above-i.ensures c.put_value-j.ensures
