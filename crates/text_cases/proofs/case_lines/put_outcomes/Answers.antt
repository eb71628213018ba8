use Rattle.std.proofs.Common.{arith}
use Rattle.text_cases.specs.Lines.{outcomes_text}
use Rattle.text_cases.proofs.Laws as laws
use Rattle.text_cases.proofs.case_lines.put_outcomes.Goals as goal

pub returns : goal.returns
unfolding outcomes_text
returns c = laws.put_four (omega arith) c.put_outcome-i.ensures c.put_outcome-j.ensures c.put_outcome-k.ensures c.put_outcome.ensures
