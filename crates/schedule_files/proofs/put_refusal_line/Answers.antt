use Rattle.std.proofs.Common.{arith}
use Rattle.construction.specs.Answers.{number_of}
use Rattle.schedule_files.proofs.Laws as laws
use Rattle.schedule_files.proofs.put_refusal_line.Goals as goal

pub returns : goal.returns
returns c = (
  laws.refusal_put (number_of c.args.refusal) (omega arith) c.put_word-i.ensures c.put_refusal-j.ensures.0
      c.put_byte.ensures,
  omega (arith, c.put_byte.ensures.place, c.put_refusal-j.ensures.1, c.put_word-i.ensures.place),
)
