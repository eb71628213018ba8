use Rattle.std.proofs.Common.{refl}
use Rattle.construction.proofs.Text.Writing as series
use Rattle.dump_writer.proofs.LineLaws as laws
use Rattle.dump_writer.proofs.dump_lines.put_vars.Goals as goal

pub loop-v-preserved : goal.loop-v-preserved
loop-v-preserved c =
    series.series_turn laws.vars_series _ _ c.loop-v-test.true c.loop-v.invariant refl c.put_var-i.ensures

pub returns : goal.returns
returns c = series.series_end laws.vars_series _ _ c.loop-v-test.false c.loop-v.invariant
