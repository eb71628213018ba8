use Rattle.std.proofs.Common.{arith}
use Rattle.calls.proofs.Lines as laws
use Rattle.calls.proofs.reading.put_line_refusal.Goals as goal

pub returns : goal.returns
returns c = (
  laws.line_put c.args.line (omega arith) c.put_number-i.ensures.0 c.put_refusal-j.ensures.0 c.put_byte.ensures,
  omega (arith, c.put_number-i.ensures.1, c.put_refusal-j.ensures.1, c.put_byte.ensures.place),
)
