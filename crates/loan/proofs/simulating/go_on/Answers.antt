use Rattle.std.proofs.Common.{◌≡◌, min, refl, arith}
use Rattle.loan.specs.Loans.{Fits}
use Rattle.loan.specs.Simulated.{Simulates}
use Rattle.loan.specs.Items.{keys_at, values_at}
use Rattle.loan.proofs.Spans as spans
use Rattle.loan.proofs.Runs as runs
use Rattle.loan.proofs.simulating.go_on.Goals as goal
use Rattle.loan.proofs.simulating.go_on.Goals.{After-items_of-span, After-resume-pause}

-- the items of the process stand inside the loan
fits : (c : After-items_of-span) → Fits c.args.l.now c.items_of-span.result
fits c = let a = c.args in spans.span_fits a.b.now a.l.now a.i (omega arith) _ c.items_of-span.ensures

-- the program goes on with their numbers
ran :
    (c : After-resume-pause) → Fits c.args.l.now c.items_of-span.result → let a = c.args in let s = c.items_of-span.result in Simulates a.b.now c.resume-pause.new.b a.i a.number
    c.last-a.result c.simulation-state.result (keys_at a.l.now s.base s.end) s.end (values_at a.l.now s.base s.end)
    c.resume-pause.new.numbers.values c.resume-pause.result
ran c f =
    let s = c.items_of-span.result in
    let all : min s.end 32 ≡ s.end = omega (arith, f.end) in
    rw all at (rw c.get_numbers.ensures at c.resume-pause.ensures.told)

pub get_numbers-requires-clause-fits : goal.get_numbers-requires-clause-fits
get_numbers-requires-clause-fits c = fits (goal.at.get_numbers-requires-clause-fits c).After-items_of-span

pub put_values-requires : goal.put_values-requires
put_values-requires c =
    let f = fits (goal.at.put_values-requires c).After-items_of-span in
    record { base = f.base; end = omega (arith, f.end); long = omega (arith, f.long) }

pub next_write-next-requires : goal.next_write-next-requires
next_write-next-requires c =
    let f = fits (goal.at.next_write-next-requires c).After-items_of-span in record { base = f.base; end = f.end; long = omega (arith, f.long) }

pub returns : goal.returns
returns c =
    let a = c.args in
    let at = goal.at.returns c in
    runs.gone_on_lem a.b.now _ a.l.now _ a.i a.number _ _ _ c.items_of-span.ensures
    (fits at.After-items_of-span) _ c.last-a.ensures _ c.simulation-state.ensures _ _ refl refl (ran at.After-resume-pause (fits at.After-items_of-span))
    c.put_values.ensures.0 c.put_values.ensures.1 _ c.next_write-next.ensures _ c.after_pause.ensures
