-- WITHOUT THE PREMISE: what holds of every block, every loan and every entry, so also of a loan that was altered between two steps (document 02, order 10:
-- 'altered ones still do no undefined thing', 'Entries past p × w remain untouched').
use Rattle.std.specs.Prelude.{ℕ, ◌+◌, ◌*◌, ◌<◌, ◌≤◌, ◌≡◌, List, length}
use Rattle.construction.specs.History.{Entry, Steps}
use Rattle.codes.specs.Parts.{word_at}
use Rattle.block.specs.Layout.{room_in, noted_in}
use Rattle.loan.specs.Loans.{loan_words}
use Rattle.lent_runs.specs.Runs.{block_after, loan_after}

-- of a block: its length, the counts and the step limit, w, the starting values and the opening texts, and every word past the card
pub record BlockKept (b c : List ℕ) : Type 0 where
  pub size : length c ≡ length b
  pub counts : (q : ℕ) → q < 4 → word_at c q ≡ word_at b q
  pub room : word_at c 7 ≡ word_at b 7
  pub texts : (q : ℕ) → 592 ≤ q → q < 920 → word_at c q ≡ word_at b q
  pub past : (q : ℕ) → 1456 ≤ q → word_at c q ≡ word_at b q

-- an entry on block and loan
pub record Untouched (b l : List ℕ) (e : Entry) : Type 0 where
  pub block : BlockKept b (block_after b l e)
  -- the loan keeps its length, and every word past p × w items
  pub size : length (loan_after b l e) ≡ length l
  pub past : (q : ℕ) → loan_words b ≤ q → word_at (loan_after b l e) q ≡ word_at l q
  -- how many items the other processes have noted, and their w items: only a step of a process changes its own
  pub noted : (j : ℕ) → (Steps e j → ⊥) → noted_in (block_after b l e) j ≡ noted_in b j
  pub items :
      (j : ℕ) → (Steps e j → ⊥) → (q : ℕ) → room_in b * j * 3 ≤ q → q < (room_in b * j + room_in b) * 3 → word_at (loan_after b l e) q ≡ word_at l q
  -- no process has more than w
  pub most : (j : ℕ) → noted_in (block_after b l e) j ≤ room_in b
