use Rattle.std.proofs.Common.{arith, ◌∙◌}
use Rattle.dictionary.proofs.Rooms as rooms
use Rattle.helping.proofs.Lines as lines
use Rattle.helping.proofs.writing.Goals as goal

pub returns-then-target-lt32 : goal.returns-then-target-lt32
returns-then-target-lt32 c =
    let d = c.args.dictionary in
    let good = c.well_formed.1.1.0 in
    lines.written _ _ d (rooms.items d _ good) _ c.next_write-next.ensures _
    (c.noted.ensures ∙ rooms.count d _ good) _ c.write_from.ensures

pub returns : goal.returns
returns c =
    let d = c.args.dictionary in
    rw c.no_item.ensures
    (lines.past_items _ _ d (rooms.items d _ c.well_formed.1.1.0) (omega (arith, c.if-target-lt32.false)))
