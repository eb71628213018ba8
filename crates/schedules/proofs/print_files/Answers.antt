use Rattle.std.proofs.Common.{sym, ◌∙◌}
use Rattle.schedule_files.proofs.Ready.{ready_short}
use Rattle.schedules.proofs.print_files.Goals as goal

pub print_listing-requires : goal.print_listing-requires
print_listing-requires g c =
    let a = c.args in
    ready_short a.card.now a.calls.now a.length (sym c.prepare-prepared.ensures.ready ∙ c.if-prepared.true)
