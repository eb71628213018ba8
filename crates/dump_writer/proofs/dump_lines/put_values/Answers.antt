use Rattle.std.proofs.Common.{ap}
use Rattle.dump.specs.Dump.{value_text}
use Rattle.construction.proofs.Text.Writing as series
use Rattle.dump_writer.proofs.LineLaws as laws
use Rattle.dump_writer.proofs.dump_lines.put_values.Goals as goal

pub loop-v-preserved : goal.loop-v-preserved
loop-v-preserved c =
    let l = c.loop-v in
    series.series_turn (laws.values_series c.args.row) _ _ c.loop-v-test.true l.invariant
    (ap (value_text l.v) c.value_at.ensures) c.put_value-i.ensures

pub returns : goal.returns
returns c = series.series_end (laws.values_series c.args.row) _ _ c.loop-v-test.false c.loop-v.invariant
