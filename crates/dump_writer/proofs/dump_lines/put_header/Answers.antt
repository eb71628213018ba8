use Rattle.std.proofs.Common.{arith}
use Rattle.dump_writer.proofs.LineLaws as laws
use Rattle.dump_writer.proofs.dump_lines.put_header.Goals as goal

pub returns : goal.returns
returns c =
    laws.put_header (omega arith) c.args.count c.put_word-i.ensures c.put_word-j.ensures c.put_vars-k.ensures
    c.put_word-l.ensures c.put_word.ensures
