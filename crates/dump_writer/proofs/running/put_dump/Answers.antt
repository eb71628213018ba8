use Rattle.std.proofs.Common.{arith}
use Rattle.dump_writer.proofs.CourseLaws as laws
use Rattle.dump_writer.proofs.running.put_dump.Goals as goal

pub returns : goal.returns
returns c =
    let a = c.args in
    laws.put_dump a.card.now a.calls.now _ c.open-opened.ensures (omega arith) c.open-piece.ensures c.put_left.ensures
