-- What the rule of an allowed step says, and that an accepted opening, an allowed step and a turn keep an allowance sound
use Prim.Native.Nat.{ℕ, zero, suc, ◌+◌, ◌<◌, ◌≤◌}
use mathlib.Core.Path.{◌≡◌, refl, sym}
use mathlib.Core.Bool.{true, false, ◌&&◌}
use mathlib.Core.Logic.{◌⊎◌, inl, inr}
use mathlib.Core.List.{List, [], ◌∷◌, map}
use native.Mathlib.Omega.{arith}
use lib.ListN.{length, get_or, set}
use lib.Seq.{get_or-set_same, get_or-set_other}
use lib.Dec.{eqb, ltb, leb}
use borrow.Author.Tests.{ltb-true, ltb-false, leb-true, eqb-true, eqb-false, lt-ltb, le-ltb}
use Rattle.construction.proofs.Basics.{on_test, and_true, true_or_false}
use Rattle.allowance.specs.Types.{Quota, Allowance}
use Rattle.allowance.specs.Allowing.{empty, quota_at, larger, reserved, used_sum, is_allowed, has_allowance, with_step, spend, unused, turn}
use Rattle.allowance.specs.Opening.{opened, are_ordered, shares, is_accepted, allowance}

-- the larger of share and steps used
pub used_larger : (q : Quota) → q.used ≤ larger q
used_larger q = on_test (λ n. q.used ≤ n) (ltb q.share q.used) (λ e. omega arith) (λ e. ltb-false _ _ e)

pub share_larger : (q : Quota) → q.share ≤ larger q
share_larger q = on_test (λ n. q.share ≤ n) (ltb q.share q.used) (λ e. omega (arith, ltb-true q.share q.used e)) (λ e. omega arith)

-- the rule of an allowed step, both ways
pub data Rule (q : Quota) (sum steps : ℕ) : Type 0 where
  within_share : q.used < q.share → Rule q sum steps
  beyond_share : q.share ≤ q.used → q.used < q.ceiling → sum < steps → Rule q sum steps

pub allowed_rule : (q : Quota) (sum steps : ℕ) → is_allowed q sum steps ≡ true → Rule q sum steps
allowed_rule q sum steps e = go (true_or_false (ltb q.used q.share))
  where
    go : (ltb q.used q.share ≡ true) ⊎ (ltb q.used q.share ≡ false) → Rule q sum steps
    go (inl h) = within_share (ltb-true _ _ h)
    go (inr h) =
        let w : ltb q.used q.ceiling && ltb sum steps ≡ true = rw h at e in
        let p = and_true (ltb q.used q.ceiling) (ltb sum steps) w in
        beyond_share (ltb-false _ _ h) (ltb-true _ _ p.0) (ltb-true _ _ p.1)

pub rule_allowed : (q : Quota) (sum steps : ℕ) → Rule q sum steps → is_allowed q sum steps ≡ true
rule_allowed q sum steps (within_share h) = rw (lt-ltb _ _ h)
rule_allowed q sum steps (beyond_share h k l) = rw (le-ltb _ _ h, lt-ltb _ _ k, lt-ltb _ _ l)

-- what a step adds to the larger: nothing within the share, and one beyond it
step_within : (q : Quota) → q.used < q.share → larger (with_step q) ≤ larger q
step_within q h =
    on_test (λ n. n ≤ larger q) (ltb q.share (q.used + 1)) (λ e. omega (arith, ltb-true q.share (q.used + 1) e)) (λ e. share_larger q)

step_adds : (q : Quota) → larger (with_step q) ≤ larger q + 1
step_adds q =
    on_test (λ n. n ≤ larger q + 1) (ltb q.share (q.used + 1)) (λ e. omega (arith, used_larger q)) (λ e. omega (arith, share_larger q))

-- the sum after one quota was set; past the end nothing is set, and the empty quota adds nothing
reserved_set : (l : List Quota) (m : ℕ) (q : Quota) → reserved (set l m q) + larger (get_or l m empty) ≤ reserved l + larger q
unfolding reserved
reserved_set [] m q = omega arith
reserved_set (x ∷ l) zero q = omega arith
reserved_set (x ∷ l) (suc m) q = omega (arith, reserved_set l m q)

pub used_reserved : (l : List Quota) → used_sum l ≤ reserved l
unfolding reserved used_sum
used_reserved [] = omega arith
used_reserved (q ∷ l) = omega (arith, used_larger q, used_reserved l)

larger_unused : (q : Quota) → larger (unused q) ≡ q.share
larger_unused q = on_test (λ n. n ≡ q.share) (ltb q.share 0) (λ e. absurd (omega (arith, ltb-true q.share 0 e))) (λ e. refl)

unused_reserved : (l : List Quota) → reserved (map unused l) ≤ reserved l
unfolding reserved
unused_reserved [] = omega arith
unused_reserved (q ∷ l) = omega (arith, larger_unused q, share_larger q, unused_reserved l)

pub get_or_unused : (l : List Quota) (m : ℕ) → get_or (map unused l) m empty ≡ unused (get_or l m empty)
get_or_unused [] m = refl
get_or_unused (q ∷ l) zero = refl
get_or_unused (q ∷ l) (suc m) = get_or_unused l m

pub used_sum-unused : (l : List Quota) → used_sum (map unused l) ≡ 0
unfolding used_sum
used_sum-unused [] = refl
used_sum-unused (q ∷ l) = omega (arith, used_sum-unused l)

-- a quota below its ceiling is that of a place of the list
place_there : (l : List Quota) (m : ℕ) → (get_or l m empty).used < (get_or l m empty).ceiling → m < length l
place_there [] m h = absurd (omega arith)
place_there (q ∷ l) zero h = omega arith
place_there (q ∷ l) (suc m) h = omega (arith, place_there l m h)

used_sum-set : (l : List Quota) (m : ℕ) → m < length l → used_sum (set l m (with_step (get_or l m empty))) ≡ used_sum l + 1
unfolding used_sum
used_sum-set [] m h = absurd (omega arith)
used_sum-set (q ∷ l) zero h = omega arith
used_sum-set (q ∷ l) (suc m) h = omega (arith, used_sum-set l m (omega arith))

-- an allowance as it is after an accepted opening and ever after
pub record Sound (a : Allowance) : Type 0 where
  pub ordered : (m : ℕ) → (quota_at a m).share ≤ (quota_at a m).ceiling
  pub below : (m : ℕ) → (quota_at a m).used ≤ (quota_at a m).ceiling
  pub room : reserved a.quotas ≤ a.steps

-- an allowed step is one below the ceiling
pub allowed_below : (a : Allowance) (m : ℕ) → Sound a → has_allowance a m ≡ true → (quota_at a m).used < (quota_at a m).ceiling
unfolding has_allowance
allowed_below a m s e = go (allowed_rule (quota_at a m) _ _ e)
  where
    go : Rule (quota_at a m) (reserved a.quotas) a.steps → (quota_at a m).used < (quota_at a m).ceiling
    go (within_share h) = omega (arith, s.ordered m)
    go (beyond_share h k l) = k

pub allowed_there : (a : Allowance) (m : ℕ) → Sound a → has_allowance a m ≡ true → m < length a.quotas
allowed_there a m s e = place_there a.quotas m (allowed_below a m s e)

-- the quota of machine j after a step of machine m
pub on_spend :
    (P : Quota → Type 0) (a : Allowance) (m j : ℕ) → m < length a.quotas →
    (m ≡ j → P (with_step (quota_at a m))) → ((m ≡ j → ⊥) → P (quota_at a j)) → P (quota_at (spend a m) j)
unfolding spend
on_spend P a m j h same other = go (true_or_false (eqb m j))
  where
    go : (eqb m j ≡ true) ⊎ (eqb m j ≡ false) → P (quota_at (spend a m) j)
    go (inl e) = let d = eqb-true m j e in rw (← d) (rw (get_or-set_same a.quotas m _ empty h) (same d))
    go (inr e) =
        let d = eqb-false m j e in rw (get_or-set_other a.quotas m j _ empty (λ p. d (sym p))) (other d)

pub spend_sound : (a : Allowance) (m : ℕ) → Sound a → has_allowance a m ≡ true → Sound (spend a m)
unfolding has_allowance spend
spend_sound a m s e =
    let h = allowed_there a m s e in
    let b = allowed_below a m s e in
    record {
      ordered = λ j. on_spend (λ q. q.share ≤ q.ceiling) a m j h (λ p. s.ordered m) (λ p. s.ordered j);
      below = λ j. on_spend (λ q. q.used ≤ q.ceiling) a m j h (λ p. omega arith) (λ p. s.below j);
      room = go (allowed_rule (quota_at a m) _ _ e);
    }
  where
    go : Rule (quota_at a m) (reserved a.quotas) a.steps → reserved (set a.quotas m (with_step (quota_at a m))) ≤ a.steps
    go (within_share h) =
        omega (arith, reserved_set a.quotas m (with_step (quota_at a m)), step_within (quota_at a m) h, s.room)
    go (beyond_share h k l) =
        omega (arith, reserved_set a.quotas m (with_step (quota_at a m)), step_adds (quota_at a m), s.room)

pub spend_used : (a : Allowance) (m : ℕ) → Sound a → has_allowance a m ≡ true → used_sum (spend a m).quotas ≡ used_sum a.quotas + 1
unfolding spend
spend_used a m s e = used_sum-set a.quotas m (allowed_there a m s e)

pub turn_sound : (a : Allowance) → Sound a → Sound (turn a)
unfolding turn
turn_sound a s =
    record {
      ordered = λ m. rw get_or_unused (s.ordered m);
      below = λ m. rw get_or_unused (omega arith);
      room = omega (arith, unused_reserved a.quotas, s.room);
    }

-- opening
opened_reserved : (n : ℕ) (l : List Quota) → reserved (opened n l) ≡ shares (opened n l)
unfolding reserved opened shares
opened_reserved n [] = refl
opened_reserved zero (q ∷ l) = omega (arith, opened_reserved zero l)
opened_reserved (suc n) (q ∷ l) = omega (arith, larger_unused q, opened_reserved n l)

opened_used : (n : ℕ) (l : List Quota) (m : ℕ) → (get_or (opened n l) m empty).used ≡ 0
unfolding opened
opened_used n [] m = refl
opened_used zero (q ∷ l) zero = refl
opened_used zero (q ∷ l) (suc m) = opened_used zero l m
opened_used (suc n) (q ∷ l) zero = refl
opened_used (suc n) (q ∷ l) (suc m) = opened_used n l m

pub opened-used_sum : (n : ℕ) (l : List Quota) → used_sum (opened n l) ≡ 0
unfolding opened used_sum
opened-used_sum n [] = refl
opened-used_sum zero (q ∷ l) = omega (arith, opened-used_sum zero l)
opened-used_sum (suc n) (q ∷ l) = omega (arith, opened-used_sum n l)

ordered_at : (l : List Quota) → are_ordered l ≡ true → (m : ℕ) → (get_or l m empty).share ≤ (get_or l m empty).ceiling
unfolding are_ordered
ordered_at [] e m = omega arith
ordered_at (q ∷ l) e zero = leb-true _ _ (and_true (leb q.share q.ceiling) _ e).0
ordered_at (q ∷ l) e (suc m) = ordered_at l (and_true (leb q.share q.ceiling) _ e).1 m

pub accepted_sound : (count steps : ℕ) (l : List Quota) → is_accepted count steps l ≡ true → Sound (allowance count steps l)
unfolding is_accepted
accepted_sound count steps l e =
    let a = and_true (leb 1 count) _ e in
    let b = and_true (leb count 4) _ a.1 in
    let c = and_true (leb 1 steps) _ b.1 in
    let d = and_true (leb steps 100000) _ c.1 in
    let f = and_true (are_ordered (opened count l)) _ d.1 in
    record {
      ordered = ordered_at (opened count l) f.0;
      below = λ m. omega (arith, opened_used count l m);
      room = omega (arith, leb-true (shares (opened count l)) steps f.1, opened_reserved count l);
    }

pub accepted_unused : (count steps : ℕ) (l : List Quota) (m : ℕ) → (quota_at (allowance count steps l) m).used ≡ 0
accepted_unused count steps l m = opened_used count l m
