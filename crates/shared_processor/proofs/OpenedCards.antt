-- A card text opened into the block of a machine, as the function has it
use Prim.Native.Nat.{ℕ, ◌-◌, ◌*◌, ◌+◌, min}
use mathlib.Core.Path.{◌≡◌, ap, ◌∙◌}
use mathlib.Core.List.{List}
use mathlib.Core.Logic.{◌≢◌, ◌⊎◌, inl, inr}
use mathlib.Core.Bool.{true, false}
use lib.Dec.{leb}
use borrow.Author.Tests.{leb-true, leb-false}
use Rattle.construction.proofs.Basics.{true_or_false}
use native.Mathlib.Omega.{arith}
use lib.ListN.{length}
use Rattle.construction.specs.Opening.{read_card}
use Rattle.construction.specs.Types.{Verdict}
use Rattle.lent_text.specs.Opened.{Opens, opened_block, judged}
use Rattle.lent_text.proofs.Theorems.{opened_short}
use Rattle.lent_text.proofs.Theorems as lent-text
use Rattle.shared_processor.specs.Parts.{part, with_part}
use Rattle.shared_processor.specs.Opening.{card_verdict, with_card}
use Rattle.shared_processor.proofs.Parts.{cut, pasted, part_same, part_other}
use Rattle.shared_processor.proofs.Requests.{piece, around, piece_length}

-- a block keeps its length, whatever it is
opened_length : (t b : List ℕ) → length (opened_block t b) ≡ length b
opened_length t b = by (true_or_false (leb 1456 (length b)))
  where
    by : (leb 1456 (length b) ≡ true) ⊎ (leb 1456 (length b) ≡ false) → length (opened_block t b) ≡ length b
    by (inl p) = lent-text.opened_length t b (leb-true 1456 (length b) p)
    by (inr p) = ap length (opened_short t b (leb-false 1456 (length b) p))

pub opens :
    (t blocks : List ℕ) (m s e : ℕ) → s ≡ min (1456 * m) (length blocks) → e ≡ min (s + 1456) (length blocks) → {r : Verdict} {z : List ℕ} →
    Opens t (piece blocks s e) r z → (r ≡ card_verdict t blocks m) × (around blocks s e z ≡ with_card t blocks m)
opens t blocks m s e at to {r} {z} x =
    let same = cut 1456 blocks m s e at to in
    let size : length z ≡ e - s = ap length x.words ∙ (opened_length t (piece blocks s e) ∙ piece_length blocks s e (omega arith)) in (
      x.answer ∙ ap (judged (read_card t).verdict) same,
      pasted 1456 blocks m s e at to z size ∙ ap (with_part 1456 blocks m) (x.words ∙ ap (opened_block t) same),
    )

-- the machine has the card of the text, and the others keep theirs
module _ (t blocks : List ℕ) (m : ℕ) where
  pub opened_card : part 1456 (with_card t blocks m) m ≡ opened_block t (part 1456 blocks m)
  opened_card = part_same 1456 blocks m (opened_block t (part 1456 blocks m)) (opened_length t (part 1456 blocks m))

  pub opened_others : (j : ℕ) → j ≢ m → part 1456 (with_card t blocks m) j ≡ part 1456 blocks j
  opened_others = part_other 1456 blocks m (opened_block t (part 1456 blocks m)) (opened_length t (part 1456 blocks m))
