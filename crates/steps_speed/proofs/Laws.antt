-- One turn more of each loop, and its end.
use Prim.Native.Nat.{ℕ, zero, suc, ◌+◌, ◌-◌, ◌%◌, ◌<◌, ◌≤◌}
use mathlib.Core.Bool.{Bool, true, false}
use mathlib.Core.Path.{◌≡◌}
use native.Mathlib.Omega.{arith}
use Rattle.construction.specs.declared.{cells.Words.Words, answers.Answered.Answered}
use Rattle.construction.specs.Requests.{call, step}
use Rattle.construction.specs.Answers.{is_run}
use Rattle.xorshift.specs.Xorshift.{next}
use Rattle.steps_speed.specs.Runs.{inputs_of, called_from, again, run_from}

pub calls_on :
    (n p : ℕ) (a b : Answered) (w : Words) (d : Answered) → p < n → b ≡ step a.card p → w ≡ inputs_of p → d ≡ call b.card p 0 w →
    called_from (n - p) p a ≡ called_from (n - (p + 1)) (p + 1) d
unfolding called_from
calls_on n p a b w d h eb ew ed = let e : n - p ≡ suc (n - (p + 1)) = omega arith in rw (e, ed, ew, eb)

pub calls_done : (n p : ℕ) (a : Answered) → n ≤ p → called_from (n - p) p a ≡ a
unfolding called_from
calls_done n p a h = let e : n - p ≡ zero = omega arith in rw e

pub runs_on_lem :
    (n k x y : ℕ) (a b d : Answered) → k < n → y ≡ next x → b ≡ step a.card (y % 8) → d ≡ again b (y % 8) (k % 4294967296) →
    run_from (n - k) k x a ≡ run_from (n - (k + 1)) (k + 1) y d
unfolding run_from
runs_on_lem n k x y a b d h ey eb ed = let e : n - k ≡ suc (n - (k + 1)) = omega arith in rw (e, ed, eb, ey)

pub runs_done : (n k x : ℕ) (a : Answered) → n ≤ k → run_from (n - k) k x a ≡ a
unfolding run_from
runs_done n k x a h = let e : n - k ≡ zero = omega arith in rw e

pub runs_whole : (n x : ℕ) (a : Answered) → run_from n 0 x a ≡ run_from (n - 0) 0 x a
runs_whole n x a = let e : n - 0 ≡ n = omega arith in rw e

-- after a step: the next call where the operation returned, and none where it goes on
module _ (b : Answered) (t : Bool) (told : t ≡ is_run b.answer) (p j : ℕ) (d : Answered) where
  pub called_again_lem : t ≡ false → (w : Words) → w ≡ inputs_of j → d ≡ call b.card p 0 w → d ≡ again b p j
  called_again_lem h w ew ed = rw (← told, h, ← ew) ed

  pub goes_on : t ≡ true → d ≡ b → d ≡ again b p j
  goes_on h ed = rw (← told, h) ed
