use Rattle.std.proofs.Common.{refl, arith}
use Rattle.dump_reader.proofs.RowLaws as laws
use Rattle.dump_reader.proofs.rows.put_row.Goals as goal

pub loop-v-preserved : goal.loop-v-preserved
loop-v-preserved c =
    let l = c.loop-v in (
      laws.row_turn _ l.v c.args.values.now l.invariant.0 c.loop-v-test.true refl c.put_byte-j.ensures
          c.put_decimal-i-in-loop-v.ensures,
      l.invariant.1,
    )

pub returns : goal.returns
returns c =
    let a = c.args in
    let l = c.loop-v in
    laws.row_all a.count a.step a.values.now (omega arith) c.few-all.ensures c.put_decimal-i.ensures
    (laws.row_end _ l.v a.values.now l.invariant.0 c.loop-v-test.false c.put_byte.ensures)
