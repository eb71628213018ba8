use Rattle.dump_reader.proofs.Whole as whole
use Rattle.dump_reader.proofs.read.Goals as goal

pub returns-in-Err : goal.returns-in-Err
returns-in-Err c =
    let a = c.args in
    whole.no_header a.text.now a.step c.read_header-header.ensures c.in-Err.is c.refused_readings.ensures

pub read_starts-started-requires : goal.read_starts-started-requires
read_starts-started-requires c =
    let a = c.args in
    whole.starts_need a.text.now a.step c.read_header-header.ensures c.in_default.is c.begun-first.ensures

pub returns-in-Err-verdict : goal.returns-in-Err-verdict
returns-in-Err-verdict c =
    let a = c.args in
    whole.no_starts a.text.now a.step c.read_header-header.ensures c.in_default.is c.begun-first.ensures
    c.read_starts-started.ensures c.in-Err-verdict.is c.refused_readings-in-Err-verdict.ensures

pub read_lines-whole-requires : goal.read_lines-whole-requires
read_lines-whole-requires c =
    let a = c.args in
    whole.lines_need a.text.now a.step c.read_header-header.ensures c.in_default.is c.begun-first.ensures
    c.read_starts-started.ensures c.in_default-verdict.is

pub returns-in-Err-verdict-2 : goal.returns-in-Err-verdict-2
returns-in-Err-verdict-2 c =
    let a = c.args in
    whole.no_lines a.text.now a.step c.read_header-header.ensures c.in_default.is c.begun-first.ensures
    c.read_starts-started.ensures c.in_default-verdict.is c.read_lines-whole.ensures c.in-Err-verdict-2.is
    c.refused_readings-in-Err-verdict-2.ensures

pub returns : goal.returns
returns c =
    let a = c.args in
    whole.all_read a.text.now a.step c.read_header-header.ensures c.in_default.is c.begun-first.ensures
    c.read_starts-started.ensures c.in_default-verdict.is c.read_lines-whole.ensures c.in_default-verdict-2.is
