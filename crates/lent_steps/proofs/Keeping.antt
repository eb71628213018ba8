-- What no step changes, with any block and any loan, handed back or altered: the length of the block, its counts, its limit, w and its texts; the length of the
-- loan, and every word of it outside the items of the process that steps, so also every word past p × w items ('Entries past p × w remain untouched').
use Prim.Native.Nat.{ℕ, suc, ◌*◌, ◌≤◌}
use mathlib.Core.Path.{◌≡◌, refl}
use mathlib.Core.Logic.{inr}
use mathlib.Core.Bool.{Bool, true, false, cond}
use mathlib.Core.List.{List}
use native.Mathlib.Nat.{mul-le-mul_left}
use native.Mathlib.Omega.{arith}
use lib.Dec.{ltb}
use borrow.Author.Tests.{ltb-true}
use Rattle.construction.specs.Answers.{is_refused}
use Rattle.construction.proofs.Basics.{and_true}
use Rattle.codes.specs.Parts.{word_at}
use Rattle.block.specs.Layout.{process_count_in, room_in}
use Rattle.loan.specs.Loans.{loan_words}
use Rattle.loan.proofs.Kept.{Only}
use Rattle.lent_machine.proofs.Keeping.{Kept, kept_self, kept_twice, counted_kept}
use Rattle.lent_helping.specs.Steps.{access_block, access_loan}
use Rattle.lent_helping.proofs.Keeps.{only_self}
use Rattle.lent_helping.proofs.Performs.{access_kept, access_only}
use Rattle.lent_steps.specs.Steps.{step_verdict, access_at, advanced, step_block, step_loan}
use Rattle.lent_steps.proofs.Judging.{accepted_process}

module _ (b l : List ℕ) (i : ℕ) where
  pub step_block_kept : Kept b (step_block b l i)
  unfolding step_block
  step_block_kept = go (is_refused (step_verdict b l i))
    where
      go : (t : Bool) → Kept b (cond t b (advanced b l i))
      go true = kept_self b
      go false = kept_twice (access_kept (access_at b i) b l i) (counted_kept (access_block (access_at b i) b l i) i)

  pub step_loan_only : Only b l (step_loan b l i) i
  unfolding step_loan
  step_loan_only = go (is_refused (step_verdict b l i))
    where
      go : (t : Bool) → Only b l (cond t l (access_loan (access_at b i) b l i)) i
      go true = only_self b l i
      go false = access_only (access_at b i) b l i

  -- 'Entries past p × w remain untouched'
  pub step_past : (q : ℕ) → loan_words b ≤ q → word_at (step_loan b l i) q ≡ word_at l q
  unfolding step_loan
  step_past q h = go (is_refused (step_verdict b l i)) refl
    where
      go : (t : Bool) → is_refused (step_verdict b l i) ≡ t → word_at (cond t l (access_loan (access_at b i) b l i)) q ≡ word_at l q
      go true e = refl
      go false e =
          let below = ltb-true i (process_count_in b) (and_true (ltb i (process_count_in b)) (ltb i 8) (accepted_process b l i e)).0 in
          let z : room_in b * suc i ≤ room_in b * process_count_in b = mul-le-mul_left (room_in b) (omega arith) in
          (access_only (access_at b i) b l i).at q (inr (omega arith))
