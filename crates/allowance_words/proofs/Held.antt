-- What is stored in the words is what is read from them.
use Prim.Native.Nat.{ℕ, zero, suc, ◌≤◌}
use mathlib.Core.Path.{◌≡◌, refl, sym, ap, ◌∙◌}
use mathlib.Core.Bool.{Bool, true, false, cond}
use mathlib.Core.List.{List, [], ◌∷◌}
use mathlib.Core.Logic.{◌⊎◌, inl, inr}
use native.Mathlib.Omega.{arith}
use lib.Dec.{ltb}
use lib.ListN.{length, length-set, length-map}
use borrow.Author.Tests.{le-ltb, ltb-false}
use Rattle.construction.proofs.Basics.{true_or_false}
use Rattle.allowance.specs.declared.{Quota.Quota, Allowance.Allowance}
use Rattle.allowance.specs.Allowing.{empty, has_allowance, spend, turn}
use Rattle.allowance.specs.Opening.{opened, is_accepted, allowance, allowance_from}
use Rattle.allowance.specs.Requests.{Kind, Request, Outcome, Acted, Machines, Logged, kept, acted, judged, request, after, log}
use Rattle.allowance.proofs.Fours.{four}
use Rattle.allowance.specs.Allowing.{no_machines}
use Rattle.allowance_words.specs.Words.{allowance_in, with_allowance, terms_in}
use Rattle.allowance_words.specs.Held.{Lent, machines_of, lent_after, after_all, log_all, Held}

-- of enough words, four quotas
held : (w : List ℕ) (a : Allowance) → 14 ≤ length w → length a.quotas ≡ 4 → allowance_in (with_allowance w a) ≡ a
unfolding allowance_in with_allowance
held [] a h e = absurd (omega arith)
held (x0 ∷ []) a h e = absurd (omega arith)
held (x0 ∷ x1 ∷ []) a h e = absurd (omega arith)
held (x0 ∷ x1 ∷ x2 ∷ []) a h e = absurd (omega arith)
held (x0 ∷ x1 ∷ x2 ∷ x3 ∷ []) a h e = absurd (omega arith)
held (x0 ∷ x1 ∷ x2 ∷ x3 ∷ x4 ∷ []) a h e = absurd (omega arith)
held (x0 ∷ x1 ∷ x2 ∷ x3 ∷ x4 ∷ x5 ∷ []) a h e = absurd (omega arith)
held (x0 ∷ x1 ∷ x2 ∷ x3 ∷ x4 ∷ x5 ∷ x6 ∷ []) a h e = absurd (omega arith)
held (x0 ∷ x1 ∷ x2 ∷ x3 ∷ x4 ∷ x5 ∷ x6 ∷ x7 ∷ []) a h e = absurd (omega arith)
held (x0 ∷ x1 ∷ x2 ∷ x3 ∷ x4 ∷ x5 ∷ x6 ∷ x7 ∷ x8 ∷ []) a h e = absurd (omega arith)
held (x0 ∷ x1 ∷ x2 ∷ x3 ∷ x4 ∷ x5 ∷ x6 ∷ x7 ∷ x8 ∷ x9 ∷ []) a h e = absurd (omega arith)
held (x0 ∷ x1 ∷ x2 ∷ x3 ∷ x4 ∷ x5 ∷ x6 ∷ x7 ∷ x8 ∷ x9 ∷ x10 ∷ []) a h e = absurd (omega arith)
held (x0 ∷ x1 ∷ x2 ∷ x3 ∷ x4 ∷ x5 ∷ x6 ∷ x7 ∷ x8 ∷ x9 ∷ x10 ∷ x11 ∷ []) a h e = absurd (omega arith)
held (x0 ∷ x1 ∷ x2 ∷ x3 ∷ x4 ∷ x5 ∷ x6 ∷ x7 ∷ x8 ∷ x9 ∷ x10 ∷ x11 ∷ x12 ∷ []) a h e = absurd (omega arith)
held (x0 ∷ x1 ∷ x2 ∷ x3 ∷ x4 ∷ x5 ∷ x6 ∷ x7 ∷ x8 ∷ x9 ∷ x10 ∷ x11 ∷ x12 ∷ x13 ∷ l) a h e =
    rw (
      le-ltb (length (x0 ∷ x1 ∷ x2 ∷ x3 ∷ x4 ∷ x5 ∷ x6 ∷ x7 ∷ x8 ∷ x9 ∷ x10 ∷ x11 ∷ x12 ∷ x13 ∷ l)) 14 h,
      le-ltb
          (length (x0 ∷ x1 ∷ x2 ∷ x3 ∷ x4 ∷ x5 ∷ x6 ∷ x7 ∷ x8 ∷ x9 ∷ x10 ∷ x11 ∷ x12 ∷ x13 ∷ l)) 14 h,
    )
    (λ i. record { steps = a.steps; count = a.count; quotas = sym (four empty a.quotas e) i })

-- of too few, no machines
unheld : (w : List ℕ) (a : Allowance) → ltb (length w) 14 ≡ true → a ≡ no_machines → allowance_in (with_allowance w a) ≡ a
unfolding allowance_in with_allowance
unheld w a h e = rw (h, h) (sym e)

either : (w : List ℕ) (a : Allowance) → length a.quotas ≡ 4 → (ltb (length w) 14 ≡ true → a ≡ no_machines) → allowance_in (with_allowance w a) ≡ a
either w a e f = go (true_or_false (ltb (length w) 14))
  where
    go : (ltb (length w) 14 ≡ true) ⊎ (ltb (length w) 14 ≡ false) → allowance_in (with_allowance w a) ≡ a
    go (inl h) = unheld w a h (f h)
    go (inr h) = held w a (ltb-false (length w) 14 h) e

-- an allowance that was opened, or is in words, has four quotas
opened_length : (n : ℕ) (l : List Quota) → length (opened n l) ≡ length l
unfolding opened
opened_length n [] = refl
opened_length zero (q ∷ l) = ap suc (opened_length zero l)
opened_length (suc n) (q ∷ l) = ap suc (opened_length n l)

either_four : (b : Bool) (x y : Allowance) → length x.quotas ≡ 4 → length y.quotas ≡ 4 → length (cond b x y).quotas ≡ 4
either_four true x y e f = e
either_four false x y e f = f

from_four : (count steps : ℕ) (l : List Quota) → length l ≡ 4 → length (allowance_from count steps l).quotas ≡ 4
unfolding allowance_from
from_four count steps l e =
    either_four (is_accepted count steps l) (allowance count steps l) (allowance 0 0 l) (opened_length count l ∙ e) (opened_length 0 l ∙ e)

in_four : (w : List ℕ) → length (allowance_in w).quotas ≡ 4
unfolding allowance_in
in_four w = either_four (ltb (length w) 14) no_machines _ refl refl

in_none : (w : List ℕ) → ltb (length w) 14 ≡ true → allowance_in w ≡ no_machines
unfolding allowance_in
in_none w h = rw h

opened_held :
    (w : List ℕ) (count steps : ℕ) (t : List ℕ) → 14 ≤ length w
    → allowance_in (with_allowance w (allowance_from count steps (terms_in t))) ≡ allowance_from count steps (terms_in t)
unfolding terms_in
opened_held w count steps t h = held w (allowance_from count steps (terms_in t)) h (from_four count steps (terms_in t) refl)

-- a request keeps four quotas, and leaves no machines where there are none
spend_four : (a : Allowance) (m : ℕ) → length a.quotas ≡ 4 → length (spend a m).quotas ≡ 4
unfolding spend
spend_four a m e = simp length-set e

turn_four : (a : Allowance) → length a.quotas ≡ 4 → length (turn a).quotas ≡ 4
unfolding turn
turn_four a e = simp length-map e

none_there : (m : ℕ) (a : Allowance) → a ≡ no_machines → ltb m a.count ≡ false
none_there m a e = ap (λ (b : Allowance). ltb m b.count) e ∙ le-ltb m 0 (omega arith)

module _ {S R A : Type 0} (k : Kind S R A) where
  request_four : (x : Machines S) (q : Request R) → length x.allowance.quotas ≡ 4 → length (request k x q).machines.allowance.quotas ≡ 4
  unfolding request
  request_four x (Request.To m r) e = there (ltb m x.allowance.count)
    where
      d : Acted S A
      d = k.act (x.states m) r

      has : (b : Bool) → length (cond b (acted x m d (spend x.allowance m)) (kept x Outcome.NoAllowance)).machines.allowance.quotas ≡ 4
      has true = spend_four x.allowance m e
      has false = e

      step : (b : Bool) → length (judged x m d b).machines.allowance.quotas ≡ 4
      step true = has (has_allowance x.allowance m)
      step false = e

      there : (b : Bool) → length (cond b (judged x m d (k.is_step r d.answer)) (kept x Outcome.NoMachine)).machines.allowance.quotas ≡ 4
      there true = step (k.is_step r d.answer)
      there false = e
  request_four x Request.Turn e = turn_four x.allowance e

  request_none : (x : Machines S) (q : Request R) → x.allowance ≡ no_machines → (request k x q).machines.allowance ≡ no_machines
  unfolding request turn
  request_none x (Request.To m r) e = rw (none_there m x.allowance e) e
  request_none x Request.Turn e = ap turn e

  requested : (x : Lent S) (q : Request R) → machines_of (lent_after k x q) ≡ (request k (machines_of x) q).machines
  requested x q =
      let y = (request k (machines_of x) q).machines in
      let e = either x.words y.allowance (request_four (machines_of x) q (in_four x.words))
      (λ h. request_none (machines_of x) q (in_none x.words h)) in
      λ i. record { allowance = e i; states = y.states }

  machines_held : (x : Lent S) (qs : List (Request R)) → machines_of (after_all k x qs) ≡ after k (machines_of x) qs
  unfolding after_all after
  machines_held x [] = refl
  machines_held x (q ∷ qs) = machines_held (lent_after k x q) qs ∙ ap (λ (y : Machines S). after k y qs) (requested x q)

  answers_held : (x : Lent S) (qs : List (Request R)) → log_all k x qs ≡ log k (machines_of x) qs
  unfolding log_all log
  answers_held x [] = refl
  answers_held x (q ∷ qs) =
      ap (λ (l : List (Logged R A)). record { request = q; outcome = (request k (machines_of x) q).outcome } ∷ l)
      (answers_held (lent_after k x q) qs ∙ ap (λ (y : Machines S). log k y qs) (requested x q))

pub allowance_held : Held
allowance_held = record { opened = opened_held; machines = λ k. machines_held k; answers = λ k. answers_held k }
