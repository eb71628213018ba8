-- A step judged, as the function has it
use Prim.Native.Nat.{ℕ, ◌*◌, ◌+◌, ◌<◌, ◌≤◌, min}
use mathlib.Core.Path.{◌≡◌, refl, sym, ap, ◌∙◌}
use mathlib.Core.Bool.{Bool, true, false, cond}
use mathlib.Core.List.{List}
use lib.ListN.{length}
use borrow.Author.Tests.{lt-ltb, le-ltb}
use Rattle.construction.specs.declared.answers.Answer.{Answer}
use Rattle.construction.specs.declared.answers.Refusal.TheVariants as refusals
use Rattle.construction.specs.Answers.{is_refused}
use Rattle.lent_steps.specs.Steps.{step_verdict}
use Rattle.std.specs.Prelude.{Option, Some, None}
use Rattle.std.specs.Option.{ok_or}
use Rattle.allowance.specs.declared.Allowance.{Allowance}
use Rattle.allowance.specs.Allowing.{has_allowance, spend, allowed}
use Rattle.shared_processor.specs.Parts.{part}
use Rattle.shared_processor.specs.Judging.{stepped_of, step_judged}
use Rattle.shared_processor.proofs.Parts.{cut}
use Rattle.shared_processor.proofs.Requests.{piece}

-- what `allow` tells
told : (a : Allowance) (m : ℕ) {o : Option Allowance} {b : Allowance} → o ≡ allowed a m → o ≡ Some b → (has_allowance a m ≡ true) × (b ≡ spend a m)
told a m {o} {b} e h = go (has_allowance a m) (sym h ∙ e)
  where
    go : (t : Bool) → Some b ≡ cond t (Some (spend a m)) None → (t ≡ true) × (b ≡ spend a m)
    go true q = (refl, cc)
    go false q = absurd (cc)

told_none : (a : Allowance) (m : ℕ) {o : Option Allowance} → o ≡ allowed a m → o ≡ None → has_allowance a m ≡ false
told_none a m {o} e h = go (has_allowance a m) (sym h ∙ e)
  where
    go : (t : Bool) → None ≡ cond t (Some (spend a m)) None → t ≡ false
    go true q = absurd (cc)
    go false q = refl

module _ (a : Allowance) (stride : ℕ) (blocks loans : List ℕ) (m i : ℕ) where
  pub absent : a.count ≤ m → record { allowance = a; answer = Answer.Refused refusals.NoProcess } ≡ step_judged a stride blocks loans m i
  unfolding step_judged
  absent p = rw (le-ltb m a.count p)

  module _
      (there : m < a.count) {s t c d : ℕ}
      (at : s ≡ min (1456 * m) (length blocks)) (to : t ≡ min (s + 1456) (length blocks))
      (from : c ≡ min (stride * m) (length loans)) (past : d ≡ min (c + stride) (length loans))
      {v : Answer} (says : v ≡ step_verdict (piece blocks s t) (piece loans c d) i)
    where
      verdict_is : v ≡ step_verdict (part 1456 blocks m) (part stride loans m) i
      verdict_is = says ∙ (λ q. step_verdict (cut 1456 blocks m s t at to q) (cut stride loans m c d from past q) i)

      pub own : is_refused v ≡ true → record { allowance = a; answer = v } ≡ step_judged a stride blocks loans m i
      unfolding step_judged
      own w = rw (← verdict_is, lt-ltb m a.count there, w)

      module _ (w : is_refused v ≡ false) {o : Option Allowance} (tells : o ≡ allowed a m) where
        pub goes : {b : Allowance} → o ≡ Some b → record { allowance = b; answer = Answer.Taken } ≡ step_judged a stride blocks loans m i
        unfolding step_judged
        goes h = let k = told a m tells h in rw (← verdict_is, lt-ltb m a.count there, w, k.0, k.1)

        pub stopped : o ≡ None → record { allowance = a; answer = Answer.Refused refusals.NoAllowance } ≡ step_judged a stride blocks loans m i
        unfolding step_judged
        stopped h = let k = told_none a m tells h in rw (← verdict_is, lt-ltb m a.count there, w, k)

        -- as `ok_or` gives it
        pub last : stepped_of a (ok_or o refusals.NoAllowance) ≡ step_judged a stride blocks loans m i
        last = go o refl
          where
            go : (z : Option Allowance) → o ≡ z → stepped_of a (ok_or z refusals.NoAllowance) ≡ step_judged a stride blocks loans m i
            go (Some b) h = goes h
            go None h = stopped h
