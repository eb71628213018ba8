use Rattle.std.proofs.Common.{◌∙◌}
use Rattle.std.proofs.lemmas.Bool.{not_from_false, not_from_true}
use Rattle.requests.proofs.Arrays as arrays
use Rattle.card.proofs.Requests as requests
use Rattle.card.proofs.read.Goals as goal

pub returns-then-not-is_below : goal.returns-then-not-is_below
returns-then-not-is_below c =
    c.refused.ensures ∙ requests.read_refused _ _ _ c.is_below.ensures (not_from_false _ c.if-not-is_below.true)

pub returns : goal.returns
returns c =
    requests.read_shown _ _ _ c.is_below.ensures (not_from_true _ c.if-not-is_below.false)
    (arrays.full_arrays c.args.card _ c.well_formed.0).announcements _ c.holder_of-m.ensures _
    c.announcement_at.ensures _ c.value_of-value.ensures
