use Rattle.std.proofs.Common.{arith}
use Rattle.listing.proofs.Buffers as laws
use Rattle.listing.proofs.branches.put_line.Goals as goal

pub returns : goal.returns
returns c = laws.put_line (omega arith) c.put_word-i.ensures c.put_word-j.ensures c.put_byte.ensures
