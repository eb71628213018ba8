use Rattle.text_cases.specs.Comparing.{outcomes_of}
use Rattle.text_cases.proofs.comparing.outcomes.Goals as goal

pub returns : goal.returns
unfolding outcomes_of
returns c = rw (← c.saturating_sub.ensures, ← c.outcome.ensures, ← c.outcome-2.ensures, ← c.outcome-3.ensures, ← c.outcome-4.ensures)
