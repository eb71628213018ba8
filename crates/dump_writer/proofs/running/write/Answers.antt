use Rattle.std.proofs.Common.{arith}
use Rattle.dump_writer.specs.Courses.{dump_text}
use Rattle.construction.proofs.Text.Writing.{no_front}
use Rattle.dump_writer.proofs.CourseLaws as laws
use Rattle.dump_writer.proofs.running.write.Goals as goal

pub returns-then-length-buffer : goal.returns-then-length-buffer
returns-then-length-buffer c =
    let told = c.put_dump-length in
    let a = c.args in
    let same = no_front told.new.buffer a.buffer.now told.auto.buffer in
    record {
      answer = laws.written_bytes (dump_text a.card.now a.calls.now) a.buffer.now same told.ensures (omega arith)
          (omega arith);
      bytes = laws.text_there (dump_text a.card.now a.calls.now) a.buffer.now same told.ensures (omega arith)
          (omega arith) c.put_dump.ensures;
    }

pub returns-else-length-buffer : goal.returns-else-length-buffer
returns-else-length-buffer c =
    let told = c.put_dump-length in
    let a = c.args in
    let same = no_front told.new.buffer a.buffer.now told.auto.buffer in
    record {
      answer = laws.written_short (dump_text a.card.now a.calls.now) a.buffer.now same told.ensures (omega arith)
          (omega arith);
      bytes = laws.bytes_kept (dump_text a.card.now a.calls.now) a.buffer.now same told.ensures (omega arith)
          (omega arith);
    }
