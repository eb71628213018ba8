use Rattle.calls.specs.Tables.{request_in}
use Rattle.calls.proofs.request_in.Goals as goal

pub returns : goal.returns
unfolding request_in
returns c =
    rw (c.word_at.ensures, c.word_at-2.ensures, c.word_at-3.ensures, c.word_at-4.ensures, c.word_at-5.ensures)
