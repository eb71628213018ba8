use Rattle.std.proofs.Common.{◌≡◌, sym, ◌∙◌, arith}
use Rattle.dictionary.proofs.Laws as laws
use Rattle.dictionary.proofs.Rooms as rooms
use Rattle.dictionary.proofs.next_write.Goals as goal

pub returns-then-altered : goal.returns-then-altered
returns-then-altered c =
    let end_is = c.noted-end.ensures ∙ rooms.count c.args.dictionary _ c.well_formed.1.0 in
    laws.write_here _ c.args.dictionary _ _ c.loop-k.invariant.0 (omega (arith, end_is)) (sym c.altered.ensures ∙ c.if-altered.true)

pub loop-k-preserved : goal.loop-k-preserved
loop-k-preserved c =
    let end_is = c.noted-end.ensures ∙ rooms.count c.args.dictionary _ c.well_formed.1.0 in
    (laws.write_more _ c.args.dictionary _ _ c.loop-k.invariant.0 (omega (arith, end_is)) (sym c.altered.ensures ∙ c.if-altered.false), omega arith)

pub returns : goal.returns
returns c =
    let end_is = c.noted-end.ensures ∙ rooms.count c.args.dictionary _ c.well_formed.1.0 in
    let last : c.max.result ≡ c.loop-k.k = omega (arith, c.max.ensures) in
    last ∙ laws.write_end _ c.args.dictionary _ _ c.loop-k.invariant.0 (omega (arith, end_is))
