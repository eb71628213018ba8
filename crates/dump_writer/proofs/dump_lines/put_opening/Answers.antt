use Rattle.std.proofs.Common.{arith}
use Rattle.dump_writer.proofs.LineLaws as laws
use Rattle.dump_writer.proofs.dump_lines.put_opening.Goals as goal

pub returns : goal.returns
returns c =
    let a = c.args in
    laws.put_opening_lem a.count a.row (omega arith) c.put_header-i.ensures c.put_time-j.ensures c.put_values.ensures
