-- Where the words of each machine stand (document 02, order 14): machine m has `size` of the lent words, from place size × m on. Of the blocks the size is
-- 1456, a card's; of the loans it is the stride, which the caller gives. Of a part that runs past the end of the words there is as much as they have.
use Rattle.std.specs.Prelude.{ℕ, ◌*◌, List, take, drop}
use Rattle.std.proofs.lemmas.List.Edits.{sets}

unfoldable pub part : ℕ → List ℕ → ℕ → List ℕ
part size words m = take size (drop (size * m) words)

-- the words with that part replaced by another of its length
unfoldable pub with_part : ℕ → List ℕ → ℕ → List ℕ → List ℕ
with_part size words m w = sets words (size * m) w
