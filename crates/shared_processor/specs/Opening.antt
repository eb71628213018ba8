-- A card text opened into the block of machine m (document 02, order 14: 'an opened card of its own'); the other blocks keep their words.
use Rattle.std.specs.Prelude.{ℕ, List}
use Rattle.construction.specs.Opening.{read_card}
use Rattle.construction.specs.Types.{Verdict}
use Rattle.lent_text.specs.Opened.{opened_block, judged}
use Rattle.shared_processor.specs.Parts.{part, with_part}

abbrev pub card_verdict : List ℕ → List ℕ → ℕ → Verdict
card_verdict text blocks m = judged (read_card text).verdict (part 1456 blocks m)

abbrev pub with_card : List ℕ → List ℕ → ℕ → List ℕ
with_card text blocks m = with_part 1456 blocks m (opened_block text (part 1456 blocks m))
