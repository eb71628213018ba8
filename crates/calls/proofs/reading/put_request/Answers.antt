use Rattle.std.proofs.Common.{arith, refl, sym}
use Rattle.calls.proofs.Lines as laws
use Rattle.calls.specs.Tables.{with_request}
use Rattle.calls.proofs.reading.put_request.Goals as goal

pub returns-then-at-lt36 : goal.returns-then-at-lt36
unfolding with_request
returns-then-at-lt36 c = refl

pub returns-else-at-lt36 : goal.returns-else-at-lt36
returns-else-at-lt36 c = sym (laws.request_out c.args.words c.args.i c.args.request (omega arith))
