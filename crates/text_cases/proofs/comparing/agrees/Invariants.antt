use Rattle.std.proofs.Common.{◌≡◌, true}
use Rattle.report.specs.Same.{all_below}
use Rattle.text_cases.specs.Comparing.{agrees_at}
use Rattle.text_cases.proofs.comparing.agrees.Given as goal

-- every byte so far is as it must be
abbrev pub invariant-loop-k : goal.invariant-loop-k
invariant-loop-k l = true ≡ all_below l.k (agrees_at l.buffer l.text l.told)

abbrev pub invariant-loop-k-2 : goal.invariant-loop-k-2
invariant-loop-k-2 l = true ≡ all_below l.k (agrees_at l.buffer l.text l.told)
