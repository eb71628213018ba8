use Rattle.std.proofs.Common.{arith}
use Rattle.dump_reader.proofs.RowLaws as laws
use Rattle.dump_reader.proofs.rows.put_rows.Goals as goal

pub returns-then-buffer-end : goal.returns-then-buffer-end
returns-then-buffer-end c =
    let l = c.loop-line in
    laws.rowing_stopped l.invariant.0 l.invariant.1 c.is_line.ensures c.loop-line-test.true c.put_ended-end.ensures
    c.if-buffer-end.true

pub loop-line-smaller : goal.loop-line-smaller
loop-line-smaller c =
    let l = c.loop-line in
    let h = laws.rowing_later l.invariant.0 l.invariant.1 c.is_line.ensures c.loop-line-test.true in
    omega (arith, c.past-at.ensures)

pub loop-line-preserved : goal.loop-line-preserved
loop-line-preserved c =
    let l = c.loop-line in (
      laws.rowing_again l.invariant.0 l.invariant.1 c.is_line.ensures c.loop-line-test.true c.put_ended-end.ensures
          c.if-buffer-end.false c.keep_value.ensures c.time_after-time.ensures c.past-at.ensures,
      c.line_at-line-in-loop-line.ensures,
    )

pub returns : goal.returns
returns c =
    let l = c.loop-line in laws.rowing_end l.invariant.0 l.invariant.1 c.is_line.ensures c.loop-line-test.false
