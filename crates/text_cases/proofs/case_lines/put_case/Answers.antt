use Rattle.std.proofs.Common.{arith}
use Rattle.text_cases.specs.Lines.{case_text}
use Rattle.text_cases.proofs.Laws as laws
use Rattle.text_cases.proofs.case_lines.put_case.Goals as goal

pub returns : goal.returns
unfolding case_text
returns c =
    rw (← c.open-opened.ensures, ← c.min.ensures, ← c.outcomes-compared.ensures)
    (laws.put_four (omega arith) c.put_decimal-i.ensures c.put_verdict-j.ensures.0 c.put_outcomes-k.ensures c.put_byte.ensures)
