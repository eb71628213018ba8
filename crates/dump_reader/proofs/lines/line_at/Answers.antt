use Rattle.dump_reader.proofs.Laws as laws
use Rattle.dump_reader.proofs.lines.line_at.Goals as goal

pub returns-then-has_byte : goal.returns-then-has_byte
returns-then-has_byte c =
    let a = c.args in laws.line_time a.text.now a.at c.has_byte.ensures c.if-has_byte.true c.time_line.ensures

pub returns-then-has_byte-2 : goal.returns-then-has_byte-2
returns-then-has_byte-2 c =
    let a = c.args in
    laws.line_value a.text.now a.at c.has_byte.ensures c.if-has_byte.false c.has_byte-2.ensures c.if-has_byte-2.true
    c.value_line.ensures

pub returns : goal.returns
returns c =
    let a = c.args in
    laws.line_neither a.text.now a.at c.has_byte.ensures c.if-has_byte.false c.has_byte-2.ensures c.if-has_byte-2.false
