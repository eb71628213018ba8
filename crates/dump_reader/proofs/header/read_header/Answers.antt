use Rattle.std.proofs.Common.{arith}
use Rattle.dump_reader.proofs.Laws as laws
use Rattle.dump_reader.proofs.header.read_header.Goals as goal

pub then_word-scope-requires : goal.then_word-scope-requires
then_word-scope-requires c =
    let h = laws.line₁ c.args.text.now c.then_word-timescale.ensures in (omega arith, omega arith)

pub then_vars-vars-requires : goal.then_vars-vars-requires
then_vars-vars-requires c =
    let a = c.args in
    let h = laws.line₂ a.text.now c.then_word-timescale.ensures c.then_word-scope.ensures in
    (laws.count₂ a.text.now c.then_word-timescale.ensures c.then_word-scope.ensures, omega arith)

pub then_word-upscope-requires : goal.then_word-upscope-requires
then_word-upscope-requires c =
    let h = laws.line₃ c.args.text.now c.then_word-timescale.ensures c.then_word-scope.ensures
    c.then_vars-vars.ensures in
    (omega arith, omega arith)

pub then_word-definitions-requires : goal.then_word-definitions-requires
then_word-definitions-requires c =
    let h = laws.line₄ c.args.text.now c.then_word-timescale.ensures c.then_word-scope.ensures
    c.then_vars-vars.ensures c.then_word-upscope.ensures in
    (omega arith, omega arith)

pub then_word-requires : goal.then_word-requires
then_word-requires c =
    let h = laws.line₅ c.args.text.now c.then_word-timescale.ensures c.then_word-scope.ensures
    c.then_vars-vars.ensures c.then_word-upscope.ensures c.then_word-definitions.ensures in
    (omega arith, omega arith)

pub returns : goal.returns
returns c =
    laws.header_whole c.args.text.now c.then_word-timescale.ensures c.then_word-scope.ensures
    c.then_vars-vars.ensures c.then_word-upscope.ensures c.then_word-definitions.ensures c.then_word.ensures
