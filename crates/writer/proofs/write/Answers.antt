use Rattle.construction.specs.Opening.{fresh}
use Rattle.construction.specs.Writing.{text_of, written, written_into}
use Rattle.writer.proofs.write.Goals as goal

pub returns : goal.returns
unfolding fresh text_of written written_into
returns c = record { answer = c.write_contents.ensures.answer; bytes = c.write_contents.ensures.bytes }
