use Rattle.std.proofs.Common.{refl, arith}
use Rattle.lent_sweep.proofs.Schedules.{sweeps_short, swept_on, swept_all}
use Rattle.lent_sweep.proofs.running.run.Goals as goal

pub returns-then-l-loan_words : goal.returns-then-l-loan_words
returns-then-l-loan_words c =
    sweeps_short c.args.calls.now c.args.b.now c.args.l.now c.args.schedule.now
    (omega (arith, c.loan_words.ensures)) c.none-counts.ensures

pub loop-i-preserved : goal.loop-i-preserved
loop-i-preserved c = swept_on c.loop-i.invariant (omega arith) refl c.turn-counts.ensures

pub returns : goal.returns
returns c = swept_all c.loop-i.invariant (omega arith)
