-- The digits passed make the value, and the place reached lies at or before the end, or is the first.
use Rattle.std.proofs.Common.{length, drop, max, ◌≤◌, ◌≡◌}
use Rattle.grammar.specs.Reading.{digits, most}
use Rattle.grammar.proofs.reading.digits_at.Given as goal

abbrev pub invariant-loop-i : goal.invariant-loop-i
invariant-loop-i l = (digits l.at 0 (drop l.at l.text) ≡ digits l.i l.value (drop l.i l.text)) × (l.value ≤ most) × (l.i ≤ max l.at (length l.text))
