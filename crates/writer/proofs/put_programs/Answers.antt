use Rattle.std.proofs.Common.{ap}
use Rattle.construction.specs.Writing.{program_text}
use Rattle.construction.proofs.Text.Writing as laws
use Rattle.writer.proofs.put_programs.Goals as goal

pub loop-k-preserved : goal.loop-k-preserved
loop-k-preserved c =
    laws.series_turn (laws.programs_series c.args.programs) _ _ c.loop-k-test.true c.loop-k.invariant
    (ap program_text (rw c.no_program.ensures at c.value_at.ensures)) c.put_program-i.ensures

pub returns : goal.returns
returns c = laws.series_end (laws.programs_series c.args.programs) _ _ c.loop-k-test.false c.loop-k.invariant
