use Rattle.std.proofs.Common.{lt-ltb}
use Rattle.std.proofs.lemmas.Result.{err_from_is_err_and}
use Rattle.reader.proofs.Laws as laws
use Rattle.reader.proofs.changes.read_change.Goals as goal

pub returns-then-text-gt16384 : goal.returns-then-text-gt16384
returns-then-text-gt16384 c = rw (lt-ltb _ _ c.if-text-gt16384.true)

pub returns-in_err-read : goal.returns-in_err-read
returns-in_err-read c =
    let p = err_from_is_err_and c.from_residual.result c.from_residual.ensures.1 in
    rw (p.1, p.2) (laws.change_refused _ _ _ c.if-text-gt16384.false c.in_err-read.ensures)

pub returns-then-read-text : goal.returns-then-read-text
returns-then-read-text c = laws.change_whole _ _ _ c.if-text-gt16384.false c.in_ok-read.ensures c.if-read-text.true

pub returns-else-read-text : goal.returns-else-read-text
returns-else-read-text c = laws.change_left _ _ _ c.if-text-gt16384.false c.in_ok-read.ensures c.if-read-text.false
