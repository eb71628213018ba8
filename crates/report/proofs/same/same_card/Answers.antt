use Rattle.std.proofs.Common.{◌≡◌, ◌∙◌, rules}
use Rattle.report.specs.Same.{all_below, same_at, same_card}
use Rattle.report.proofs.Laws as laws
use Rattle.report.proofs.same.same_card.Goals as goal

pub returns-then-same_records : goal.returns-then-same_records
unfolding same_card
returns-then-same_records c =
    let arrays : c.same_arrays.result ≡ all_below 8 (same_at c.args.a c.args.b) = c.same_arrays.ensures ∙ laws.range 8 _ in
    search (rules, arrays)
