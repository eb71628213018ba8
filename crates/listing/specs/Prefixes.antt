-- What the recursion of the listing holds on its way: idle processes by their controls, and the printed steps so far in two buffers with room for those still to choose.
use Rattle.std.specs.Prelude.{ℕ, zero, suc, ◌+◌, ◌*◌, ◌<◌, ◌≤◌, ◌≡◌, Bool, true, ◌&&◌, List, length, get_or, take}
use Rattle.grammar.specs.Writing.{largest, Put}
use Rattle.construction.specs.declared.{accesses.Control.Control}
use Rattle.construction.specs.Parts.{idle_control}
use Rattle.construction.specs.Requests.{is_idle}

-- none of the first n processes has an operation under way, by their controls
unfoldable pub are_idle : List Control → ℕ → Bool
are_idle l zero = true
are_idle l (suc n) = is_idle (get_or l n idle_control).place && are_idle l n

-- Of at most three processes the numbers have one digit, and an answer has at most 132 bytes: the first x bytes of `numbers` and y of `answers` are in use,
-- and each step still to choose has room.
pub record Holds (count left : ℕ) (numbers : List ℕ) (x : ℕ) (answers : List ℕ) (y : ℕ) : Type 0 where
  pub few : count ≤ 3
  pub digits : x + left ≤ length numbers
  pub fields : y + 132 * left ≤ length answers
  pub digits_end : length numbers < largest
  pub fields_end : length answers < largest

-- the longest line that can still come, and the bytes of all lines together, where three processes are chosen from at each step
abbrev pub longest : ℕ → ℕ → ℕ → ℕ
longest left x y = x + (y + (133 * left + 1))

unfoldable pub capacity : ℕ → ℕ → ℕ
capacity zero line = line
capacity (suc n) line = 3 * capacity n line

-- A text is put into the buffer b, of at most `most` bytes, and the printed steps are as they were.
pub record Lines (b : List ℕ) (at : ℕ) (text : List ℕ) (most next : ℕ) (z numbers : List ℕ) (x : ℕ) (numbers' answers : List ℕ) (y : ℕ) (answers' : List ℕ) : Type 0 where
  pub put : Put b at text next z
  pub within : next ≤ at + most
  pub digits : take x numbers' ≡ take x numbers
  pub fields : take y answers' ≡ take y answers
