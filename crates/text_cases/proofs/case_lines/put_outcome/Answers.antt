use Rattle.std.proofs.Common.{arith}
use Rattle.grammar.proofs.Puts.{put_both}
use Rattle.text_cases.specs.Lines.{outcome_text}
use Rattle.text_cases.proofs.case_lines.put_outcome.Goals as goal

pub returns : goal.returns
unfolding outcome_text
returns c = put_both (omega arith) c.put_written-next.ensures.0 c.put_agreement.ensures
