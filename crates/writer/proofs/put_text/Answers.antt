use Rattle.std.proofs.Common.{arith}
use Rattle.construction.specs.Opening.{fresh}
use Rattle.construction.proofs.Text.Writing as laws
use Rattle.writer.proofs.put_text.Goals as goal

pub returns-then-contents-eq0 : goal.returns-then-contents-eq0
unfolding fresh
returns-then-contents-eq0 c = laws.put_nothing (fresh c.args.contents) _ c.if-contents-eq0.true

pub returns : goal.returns
unfolding fresh
returns c =
    laws.put_card (fresh c.args.contents) c.if-contents-eq0.false (omega arith) c.put_word-i.ensures
    c.put_four-j.ensures c.put_vars-k.ensures c.put_programs.ensures
