use Rattle.std.proofs.Common.{sym, ◌∙◌, length-set, arith}
use Rattle.dump_writer.proofs.RowLaws as laws
use Rattle.dump_writer.proofs.rows.values.Goals as goal

pub loop-v-preserved : goal.loop-v-preserved
loop-v-preserved c =
    let a = c.args in
    let l = c.loop-v in (
      l.invariant.0 ∙ laws.shown_turn a.gate a.announcement a.records a.count l.v l.row
          (omega arith) c.value_of.ensures,
      simp length-set l.invariant.1,
    )

pub returns : goal.returns
returns c =
    let a = c.args in
    let l = c.loop-v in
    sym
    (l.invariant.0 ∙ laws.shown_end a.gate a.announcement a.records a.count l.v l.row l.invariant.1
    (omega arith))
