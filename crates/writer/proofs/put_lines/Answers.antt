use Rattle.std.proofs.Common.{ap}
use Rattle.construction.specs.declared.programs.Line.{Line}
use Rattle.construction.specs.Lines.{ins_text}
use Rattle.construction.proofs.Text.Writing as laws
use Rattle.writer.proofs.put_lines.Goals as goal

pub loop-k-preserved : goal.loop-k-preserved
loop-k-preserved c =
    laws.series_turn (laws.lines_series c.args.lines) _ _ c.loop-k-test.true c.loop-k.invariant
    (ap (λ (x : Line). ins_text x.instruction) (rw c.no_line.ensures at c.value_at-line.ensures)) c.put_instruction-i.ensures

pub returns : goal.returns
returns c = laws.series_end (laws.lines_series c.args.lines) _ _ c.loop-k-test.false c.loop-k.invariant
