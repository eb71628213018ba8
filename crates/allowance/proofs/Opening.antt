-- What opening accepts, both ways, and what a refused opening leaves
use Prim.Native.Nat.{ℕ, zero, suc, ◌<◌, ◌≤◌}
use mathlib.Core.Path.{◌≡◌, refl, ap}
use mathlib.Core.Bool.{true, false}
use mathlib.Core.Logic.{◌⊎◌, inl, inr}
use mathlib.Core.List.{List, [], ◌∷◌, map}
use native.Mathlib.Omega.{arith}
use lib.ListN.{get_or, take}
use lib.Dec.{leb}
use borrow.Author.Tests.{leb-true, le-leb}
use Rattle.construction.specs.declared.answers.Answer.{Answer}
use Rattle.construction.specs.declared.answers.Refusal.TheVariants.{BadTerms}
use Rattle.construction.specs.Answers.{refused_with, answer_fields}
use Rattle.construction.proofs.Basics.{and_true, true_or_false, clash}
use Rattle.construction.proofs.Statements.AnswerFields.{answer_known}
use Rattle.allowance.specs.Types.{Quota}
use Rattle.allowance.specs.Allowing.{empty, unused, turn}
use Rattle.allowance.specs.Opening.{opened, are_ordered, shares, is_accepted, Terms, allowance_from, open_answer}

shares_none : (l : List Quota) → shares (opened zero l) ≡ 0
unfolding opened shares
shares_none [] = refl
shares_none (q ∷ l) = omega (arith, shares_none l)

shares_opened : (n : ℕ) (l : List Quota) → shares (opened n l) ≡ shares (take n l)
unfolding opened shares
shares_opened zero [] = refl
shares_opened zero (q ∷ l) = omega (arith, shares_none l)
shares_opened (suc n) [] = refl
shares_opened (suc n) (q ∷ l) = omega (arith, shares_opened n l)

-- the quota of a machine that is there
pub opened_at : (n : ℕ) (l : List Quota) (m : ℕ) → m < n → get_or (opened n l) m empty ≡ unused (get_or l m empty)
unfolding opened
opened_at n [] m h = refl
opened_at zero (q ∷ l) m h = absurd (omega arith)
opened_at (suc n) (q ∷ l) zero h = refl
opened_at (suc n) (q ∷ l) (suc m) h = opened_at n l m (omega arith)

ordered_opened : (n : ℕ) (l : List Quota) → are_ordered (opened n l) ≡ true → (m : ℕ) → m < n → (get_or l m empty).share ≤ (get_or l m empty).ceiling
unfolding opened are_ordered
ordered_opened n [] e m h = omega arith
ordered_opened zero (q ∷ l) e m h = absurd (omega arith)
ordered_opened (suc n) (q ∷ l) e zero h = leb-true q.share q.ceiling (and_true (leb q.share q.ceiling) _ e).0
ordered_opened (suc n) (q ∷ l) e (suc m) h = ordered_opened n l (and_true (leb q.share q.ceiling) _ e).1 m (omega arith)

opened_ordered :
    (n : ℕ) (l : List Quota) → ((m : ℕ) → m < n → (get_or l m empty).share ≤ (get_or l m empty).ceiling) → are_ordered (opened n l) ≡ true
unfolding opened are_ordered
opened_ordered n [] f = refl
opened_ordered zero (q ∷ l) f = opened_ordered zero l (λ m h. absurd (omega arith))
opened_ordered (suc n) (q ∷ l) f =
    let e = le-leb q.share q.ceiling (f zero (omega arith)) in
    rw e (opened_ordered n l (λ m h. f (suc m) (omega arith)))

-- 'outside these rules are refused with 18'
pub accepted_terms : (count steps : ℕ) (l : List Quota) → is_accepted count steps l ≡ true → Terms count steps l
unfolding is_accepted
accepted_terms count steps l e =
    let a = and_true (leb 1 count) _ e in
    let b = and_true (leb count 4) _ a.1 in
    let c = and_true (leb 1 steps) _ b.1 in
    let d = and_true (leb steps 100000) _ c.1 in
    let f = and_true (are_ordered (opened count l)) _ d.1 in
    record {
      one = leb-true 1 count a.0;
      four = leb-true count 4 b.0;
      some = leb-true 1 steps c.0;
      most = leb-true steps 100000 d.0;
      ordered = ordered_opened count l f.0;
      together = omega (arith, leb-true (shares (opened count l)) steps f.1, shares_opened count l);
    }

pub terms_accepted : (count steps : ℕ) (l : List Quota) → Terms count steps l → is_accepted count steps l ≡ true
unfolding is_accepted
terms_accepted count steps l t =
    rw (
      le-leb 1 count t.one,
      le-leb count 4 t.four,
      le-leb 1 steps t.some,
      le-leb steps 100000 t.most,
      opened_ordered count l t.ordered,
    )
    (le-leb (shares (opened count l)) steps (omega (arith, t.together, shares_opened count l)))

-- 18 by its number, both ways
module _ (count steps : ℕ) (l : List Quota) where
  pub eighteen : (Terms count steps l → ⊥) → answer_fields (open_answer count steps l) ≡ refused_with 18
  unfolding answer_fields
  eighteen none = go (true_or_false (is_accepted count steps l))
    where
      go : (is_accepted count steps l ≡ true) ⊎ (is_accepted count steps l ≡ false) → answer_fields (open_answer count steps l) ≡ refused_with 18
      go (inl e) = absurd (none (accepted_terms count steps l e))
      go (inr e) = rw e

  pub eighteen_only : answer_fields (open_answer count steps l) ≡ refused_with 18 → Terms count steps l → ⊥
  unfolding answer_fields
  eighteen_only h t =
      let taken : open_answer count steps l ≡ Answer.Taken = rw (terms_accepted count steps l t) in
      let told : open_answer count steps l ≡ Answer.Refused BadTerms = answer_known (open_answer count steps l) (Answer.Refused BadTerms) h in
      clash (cc)

  pub opening_taken : Terms count steps l → open_answer count steps l ≡ Answer.Taken
  opening_taken t = rw (terms_accepted count steps l t)

-- a refused opening leaves no machines, and a turn changes nothing of that
unused_none : (l : List Quota) → map unused (opened zero l) ≡ opened zero l
unfolding opened
unused_none [] = refl
unused_none (q ∷ l) = ap (λ (x : List Quota). empty ∷ x) (unused_none l)

pub refused_count : (count steps : ℕ) (l : List Quota) → is_accepted count steps l ≡ false → (allowance_from count steps l).count ≡ 0
unfolding allowance_from
refused_count count steps l e = rw e

pub refused_turn :
    (count steps : ℕ) (l : List Quota) → is_accepted count steps l ≡ false → turn (allowance_from count steps l) ≡ allowance_from count steps l
unfolding allowance_from turn
refused_turn count steps l e = rw e (λ i. record { steps = 0; count = 0; quotas = unused_none l i })
