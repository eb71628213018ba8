use Rattle.std.proofs.lemmas.Bool.{not_from_false, not_from_true}
use Rattle.std.proofs.Common.{arith, get_or, w32, Fits, rules}
use Rattle.dump_writer.proofs.CourseLaws as laws
use Rattle.dump_writer.proofs.running.put_command.Goals as goal

pub returns-then-not-counts : goal.returns-then-not-counts
returns-then-not-counts c =
    let a = c.args in
    laws.command_none a.calls.now a.course c.advance-advanced.ensures c.counts.ensures _ _ (not_from_false _ c.if-not-counts.true)
    (omega arith)

pub returns : goal.returns
returns c =
    let a = c.args in
    laws.command_step a.calls.now a.course c.advance-advanced.ensures c.counts.ensures _ _ (not_from_true _ c.if-not-counts.false)
    c.row_of-row.ensures c.next_step-steps.ensures (rw (← c.few-count.ensures) c.put_changes-now.ensures)
    (omega arith) (λ v. let f : Fits w32 (get_or c.row_of-row.result v 0) = search rules in f.fits)
