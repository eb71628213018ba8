-- How many words a caller lends, and the longest wait (document 02, orders 10 and 3).
use Rattle.std.specs.Prelude.{ℕ, ◌*◌, cond, ◌&&◌, List, leb, Option, unwrap_or}
use Rattle.block.specs.Layout.{process_count_in, room_in}
use Rattle.wait_table.specs.Table.{wait_for}

-- the words of a block
abbrev pub block_words : ℕ
block_words = 1456

-- the words of the loan of a card with p processes and weight w: p × w noted records, three words each; 0 where no card has p and w
unfoldable pub loan_size : ℕ → ℕ → ℕ
loan_size p w = cond (leb p 8 && leb w 32) (3 * p * w) 0

-- the longest wait, 0 where the table has none (no entry is 0)
abbrev pub wait_number : Option ℕ → ℕ
wait_number wait = unwrap_or wait 0

-- that of the card in a block
unfoldable pub wait_in : List ℕ → ℕ
wait_in b = wait_number (wait_for (process_count_in b) (room_in b))
