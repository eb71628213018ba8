use Rattle.std.proofs.Common.{ap}
use Rattle.construction.specs.Lines.{var_text}
use Rattle.construction.proofs.Text.Writing as laws
use Rattle.writer.proofs.put_vars.Goals as goal

pub loop-k-preserved : goal.loop-k-preserved
loop-k-preserved c =
    laws.series_turn (laws.vars_series c.args.starts) _ _ c.loop-k-test.true c.loop-k.invariant
    (ap var_text c.value_at.ensures) c.put_var-i.ensures

pub returns : goal.returns
returns c = laws.series_end (laws.vars_series c.args.starts) _ _ c.loop-k-test.false c.loop-k.invariant
