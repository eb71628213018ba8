use Rattle.std.proofs.Common.{lt-ltb, le-ltb}
use Rattle.allowance_words.specs.Words.{with_allowance}
use Rattle.allowance_words.proofs.put_allowance.Goals as goal

pub returns-then-words-lt14 : goal.returns-then-words-lt14
unfolding with_allowance
returns-then-words-lt14 c = rw (lt-ltb _ 14 (c.if-words-lt14.true))

pub returns : goal.returns
unfolding with_allowance
returns c =
    rw (
      le-ltb _ 14 c.if-words-lt14.false,
      c.put_quota-4.ensures,
      c.put_quota-3.ensures,
      c.put_quota-2.ensures,
      c.put_quota.ensures,
      c.put-2.ensures,
      c.put.ensures,
    )
