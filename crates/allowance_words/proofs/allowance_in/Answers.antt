use Rattle.std.proofs.Common.{lt-ltb, le-ltb}
use Rattle.allowance_words.specs.Words.{allowance_in}
use Rattle.allowance_words.proofs.allowance_in.Goals as goal

pub returns-then-words-lt14 : goal.returns-then-words-lt14
unfolding allowance_in
returns-then-words-lt14 c = rw (lt-ltb _ 14 (c.if-words-lt14.true), c.no_machines.ensures)

pub returns : goal.returns
unfolding allowance_in
returns c =
    rw (
      le-ltb _ 14 c.if-words-lt14.false,
      c.quota_in.ensures,
      c.quota_in-2.ensures,
      c.quota_in-3.ensures,
      c.quota_in-4.ensures,
    )
