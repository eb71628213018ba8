use Rattle.std.proofs.Common.{arith}
use Rattle.construction.specs.Opening.{fresh}
use Rattle.construction.proofs.Text.Writing as laws
use Rattle.writer.proofs.write_contents.Goals as goal

pub returns-then-length-buffer : goal.returns-then-length-buffer
returns-then-length-buffer c =
    let told = c.put_text-length in
    let a = c.args in
    let same = laws.no_front told.new.buffer a.buffer.now told.auto.buffer in
    record {
      answer = laws.written_bytes (fresh a.contents) a.buffer.now same told.ensures (omega arith) (omega arith);
      bytes = laws.text_there (fresh a.contents) a.buffer.now same told.ensures (omega arith) (omega arith)
          c.put_text.ensures;
    }

pub returns-else-length-buffer : goal.returns-else-length-buffer
returns-else-length-buffer c =
    let told = c.put_text-length in
    let a = c.args in
    let same = laws.no_front told.new.buffer a.buffer.now told.auto.buffer in
    record {
      answer = laws.written_short (fresh a.contents) a.buffer.now same told.ensures (omega arith) (omega arith);
      bytes = laws.bytes_kept (fresh a.contents) a.buffer.now same told.ensures (omega arith) (omega arith);
    }
