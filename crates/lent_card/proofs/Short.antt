-- A block that is too short: every request is refused, as on the card of a refused text, and the block stays as it was.
use Prim.Native.Nat.{ℕ, ◌<◌}
use mathlib.Core.Path.{◌≡◌}
use mathlib.Core.Bool.{Bool, false, ◌&&◌}
use mathlib.Core.List.{List}
use native.Mathlib.Omega.{arith}
use lib.Dec.{ltb}
use lib.ListN.{length}
use borrow.Author.Tests.{lt-leb, le-ltb}
use Rattle.construction.specs.declared.{cells.Words.Words, answers.Answer.Answer}
use Rattle.construction.specs.declared.answers.Refusal.TheVariants.{NoProcess, NoProgram, NoPlace}
use Rattle.codes.specs.Codes.{byte}
use Rattle.block.specs.Layout.{is_room, number_at}
use Rattle.lent_card.specs.Requests.{call_answer, call_block, exit_answer, exit_block, read_answer, change_answer, change_block}

module _ (b : List ℕ) (short : length b < 1456) where
  none : (base i : ℕ) (r : Bool) → ltb i (byte (number_at b base 1 0)) && r ≡ false
  unfolding number_at is_room
  none base i r = rw (lt-leb 1456 (length b) short, le-ltb i 0 (omega arith))

  pub call_short : (i k : ℕ) (inputs : Words) → (call_answer b i k ≡ Answer.Refused NoProcess) × (call_block b i k inputs ≡ b)
  unfolding call_answer call_block
  call_short i k inputs = let e = none 0 i (ltb i 8) in (rw e, rw e)

  pub exit_short : (i : ℕ) → (exit_answer b i ≡ Answer.Refused NoProcess) × (exit_block b i ≡ b)
  unfolding exit_answer exit_block
  exit_short i = let e = none 0 i (ltb i 8) in (rw e, rw e)

  pub read_short : (v : ℕ) → read_answer b v ≡ Answer.Refused NoPlace
  unfolding read_answer
  read_short v = rw (none 1 v (ltb v 64))

  pub change_short : (k from : ℕ) (t : List ℕ) → (change_answer b k from t ≡ Answer.RefusedAt NoProgram 0) × (change_block b k from t ≡ b)
  unfolding change_answer change_block
  change_short k from t = let e = none 2 k (ltb k 8) in (rw e, rw e)
