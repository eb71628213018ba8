-- Laws that the functions' proofs cite: lists of four by their elements, and tests
use Prim.Native.Nat.{ℕ, zero, suc, ◌+◌, ◌-◌, ◌<◌, ◌≤◌}
use mathlib.Core.Path.{◌≡◌, refl, sym, ap, ◌∙◌}
use mathlib.Core.Bool.{Bool, true, false, cond, ◌&&◌}
use mathlib.Core.List.{List, [], ◌∷◌, map}
use Rattle.std.specs.Prelude.{Some, None, Ok, Err}
use Rattle.std.specs.Option.{is_some}
use native.Mathlib.Omega.{arith}
use lib.ListN.{length, get_or, take, drop}
use native.Mathlib.Numerals.{add-one}
use lib.Dec.{ltb, leb}
use borrow.Author.Tests.{ltb-true, ltb-false, lt-ltb, le-ltb, leb-true, leb-false, le-leb, lt-leb}
use Rattle.allowance.specs.Types.{Quota, Allowance}
use Rattle.allowance.specs.Allowing.{empty, no_machines, quota_at, unused, larger, reserved, has_allowance, total}
use Rattle.construction.specs.declared.answers.Answer.{Answer}
use Rattle.construction.specs.declared.answers.Refusal.TheVariants.{BadTerms}
use Rattle.allowance.specs.Opening.{opened, are_ordered, shares, is_accepted, allowance, allowance_from, open_answer, opened_as, answer_of_opened, left_by}
use Rattle.allowance.proofs.Allowing.{Rule, allowed_rule}

-- a list of four
pub four : {A : Type 0} (d : A) (l : List A) → length l ≡ 4 → l ≡ get_or l 0 d ∷ get_or l 1 d ∷ get_or l 2 d ∷ get_or l 3 d ∷ []
four d [] e = absurd (omega arith)
four d (x ∷ []) e = absurd (omega arith)
four d (x ∷ y ∷ []) e = absurd (omega arith)
four d (x ∷ y ∷ z ∷ []) e = absurd (omega arith)
four d (x ∷ y ∷ z ∷ w ∷ []) e = refl
four d (x ∷ y ∷ z ∷ w ∷ v ∷ l) e = absurd (omega arith)

-- past the end
pub get_or_past : {A : Type 0} (l : List A) (m : ℕ) (d : A) → length l ≤ m → get_or l m d ≡ d
get_or_past [] m d h = refl
get_or_past (x ∷ l) zero d h = absurd (omega arith)
get_or_past (x ∷ l) (suc m) d h = get_or_past l m d (omega arith)

-- four numbers or quotas, each made of one of four others
pub map_four :
    {A B : Type 0} (f : A → B) (d : A) (e : B) (l : List A) (m : List B) → length l ≡ 4 → length m ≡ 4 →
    ((i : ℕ) → i < 4 → get_or m i e ≡ f (get_or l i d)) → m ≡ map f l
map_four f d e l m p q h =
    four e m q
    ∙ ((λ j. h 0 (omega arith) j ∷ h 1 (omega arith) j ∷ h 2 (omega arith) j ∷ h 3 (omega arith) j ∷ [])
    ∙ sym (ap (map f) (four d l p)))

-- opening, element by element
opened_elements :
    (n : ℕ) (x y z w : Quota) →
    opened n (x ∷ y ∷ z ∷ w ∷ []) ≡
    cond (ltb 0 n) (unused x) empty ∷ cond (ltb 1 n) (unused y) empty ∷ cond (ltb 2 n) (unused z) empty ∷ cond (ltb 3 n) (unused w) empty ∷ []
unfolding opened
opened_elements zero x y z w = refl
opened_elements (suc zero) x y z w = refl
opened_elements (suc (suc zero)) x y z w = refl
opened_elements (suc (suc (suc zero))) x y z w = refl
opened_elements (suc (suc (suc (suc n)))) x y z w =
    let k = suc (suc (suc (suc n))) in
    rw (lt-ltb 0 k (omega arith), lt-ltb 1 k (omega arith), lt-ltb 2 k (omega arith), lt-ltb 3 k (omega arith))

module _ (l : List Quota) (e : length l ≡ 4) where
  pub opened_four :
      (n : ℕ) {x y z w : Quota} →
      x ≡ cond (ltb 0 n) (unused (get_or l 0 empty)) empty → y ≡ cond (ltb 1 n) (unused (get_or l 1 empty)) empty →
      z ≡ cond (ltb 2 n) (unused (get_or l 2 empty)) empty → w ≡ cond (ltb 3 n) (unused (get_or l 3 empty)) empty →
      x ∷ y ∷ z ∷ w ∷ [] ≡ opened n l
  opened_four n p q r s =
      (λ i. p i ∷ q i ∷ r i ∷ s i ∷ []) ∙
      sym (ap (opened n) (four empty l e) ∙ opened_elements n (get_or l 0 empty) (get_or l 1 empty) (get_or l 2 empty) (get_or l 3 empty))

-- what opening answers and leaves, from what code gives
pub answers_opening : (count steps : ℕ) (l : List Quota) → answer_of_opened (opened_as count steps l) ≡ open_answer count steps l
answers_opening count steps l = go (is_accepted count steps l)
  where
    go : (t : Bool) → answer_of_opened (cond t (Ok (allowance count steps l)) (Err BadTerms)) ≡ cond t Answer.Taken (Answer.Refused BadTerms)
    go true = refl
    go false = refl

none_opened : (l : List Quota) → length l ≡ 4 → allowance 0 0 l ≡ no_machines
unfolding opened
none_opened l e = ap (allowance 0 0) (four empty l e)

pub leaves_opening : (count steps : ℕ) (l : List Quota) → length l ≡ 4 → left_by (opened_as count steps l) ≡ allowance_from count steps l
unfolding allowance_from
leaves_opening count steps l e = go (is_accepted count steps l)
  where
    go : (t : Bool) → left_by (cond t (Ok (allowance count steps l)) (Err BadTerms)) ≡ cond t (allowance count steps l) (allowance 0 0 l)
    go true = refl
    go false = sym (none_opened l e)

-- what code sums up is what the definitions do
pub reserved_sum : (l : List Quota) → total (map larger l) ≡ reserved l
unfolding reserved total
reserved_sum [] = refl
reserved_sum (q ∷ l) = ap (λ n. larger q + n) (reserved_sum l)

pub shares_sum : (l : List Quota) → total (map (λ (q : Quota). q.share) l) ≡ shares l
unfolding shares total
shares_sum [] = refl
shares_sum (q ∷ l) = ap (λ n. q.share + n) (shares_sum l)

total_suc : (l : List ℕ) (i : ℕ) → i < length l → total (take (suc i) l) ≡ total (take i l) + get_or l i 0
unfolding total
total_suc [] i h = absurd (omega arith)
total_suc (n ∷ l) zero h = omega arith
total_suc (n ∷ l) (suc i) h = omega (arith, total_suc l i (omega arith))

pub total_more : (l : List ℕ) (i : ℕ) → i < length l → total (take (i + 1) l) ≡ total (take i l) + get_or l i 0
total_more l i h = rw (add-one i) (total_suc l i h)

pub total_part : (l : List ℕ) (i : ℕ) → total (take i l) ≤ total l
unfolding total
total_part [] zero = omega arith
total_part [] (suc i) = omega arith
total_part (n ∷ l) zero = omega arith
total_part (n ∷ l) (suc i) = omega (arith, total_part l i)

pub total_all : (l : List ℕ) (i : ℕ) → length l ≤ i → total (take i l) ≡ total l
unfolding total
total_all [] zero h = refl
total_all [] (suc i) h = refl
total_all (n ∷ l) zero h = absurd (omega arith)
total_all (n ∷ l) (suc i) h = ap (λ k. n + k) (total_all l i (omega arith))

-- whether the shares are not above the ceilings, from a place on
ordered_suc :
    (l : List Quota) (i : ℕ) → i < length l →
    are_ordered (drop i l) ≡ leb (get_or l i empty).share (get_or l i empty).ceiling && are_ordered (drop (suc i) l)
unfolding are_ordered
ordered_suc [] i h = absurd (omega arith)
ordered_suc (q ∷ l) zero h = refl
ordered_suc (q ∷ l) (suc i) h = ordered_suc l i (omega arith)

ordered_past : (l : List Quota) (i : ℕ) → length l ≤ i → are_ordered (drop i l) ≡ true
unfolding are_ordered
ordered_past [] zero h = refl
ordered_past [] (suc i) h = refl
ordered_past (q ∷ l) zero h = absurd (omega arith)
ordered_past (q ∷ l) (suc i) h = ordered_past l i (omega arith)

module _ (l : List Quota) (i : ℕ) (e : are_ordered l ≡ are_ordered (drop i l)) where
  pub ordered_no : i < length l → (get_or l i empty).ceiling < (get_or l i empty).share → false ≡ are_ordered l
  ordered_no h k = sym (e ∙ (ordered_suc l i h ∙ rw (lt-leb _ _ k)))

  pub ordered_more : i < length l → (get_or l i empty).share ≤ (get_or l i empty).ceiling → are_ordered l ≡ are_ordered (drop (i + 1) l)
  ordered_more h k = rw (add-one i) (e ∙ (ordered_suc l i h ∙ rw (le-leb _ _ k)))

  pub ordered_end : length l ≤ i → true ≡ are_ordered l
  ordered_end h = sym (e ∙ ordered_past l i h)

-- what is left of some steps, by whether they are enough
pub left_some : (n s : ℕ) {m : ℕ} → m + n ≡ s → Some m ≡ cond (leb n s) (Some (s - n)) None
left_some n s {m} e = let d : m ≡ s - n = omega arith in rw (le-leb n s (omega arith)) (ap Some d)

pub left_none : (n s : ℕ) → s < n → None ≡ cond (leb n s) (Some (s - n)) None
left_none n s h = rw (lt-leb n s h)

-- .. and what that says of the steps
ltb_same : (a b c d : ℕ) → (a < b → c < d) → (b ≤ a → d ≤ c) → ltb a b ≡ ltb c d
ltb_same a b c d f g = go (ltb a b) refl
  where
    go : (t : Bool) → ltb a b ≡ t → ltb a b ≡ ltb c d
    go true e = e ∙ sym (lt-ltb c d (f (ltb-true a b e)))
    go false e = e ∙ sym (le-ltb c d (g (ltb-false a b e)))

pub room_left : (n s : ℕ) {m : ℕ} → Some m ≡ cond (leb n s) (Some (s - n)) None → ltb 0 m ≡ ltb n s
room_left n s {m} e = go (leb n s) refl e
  where
    go : (t : Bool) → leb n s ≡ t → Some m ≡ cond t (Some (s - n)) None → ltb 0 m ≡ ltb n s
    go true p q =
        let d : m ≡ s - n = cc in
        let h = leb-true n s p in
        ltb_same 0 m n s (λ x. omega arith) (λ x. omega arith)
    go false p q = absurd (cc)

pub no_room : (n s : ℕ) → None ≡ cond (leb n s) (Some (s - n)) None → false ≡ ltb n s
no_room n s e = go (leb n s) refl e
  where
    go : (t : Bool) → leb n s ≡ t → None ≡ cond t (Some (s - n)) None → false ≡ ltb n s
    go true p q = absurd (cc)
    go false p q = let h = leb-false n s p in sym (le-ltb n s (omega arith))

pub is_left : (n s : ℕ) → is_some (cond (leb n s) (Some (s - n)) None) ≡ leb n s
is_left n s = go (leb n s)
  where
    go : (t : Bool) → is_some (cond t (Some (s - n)) None) ≡ t
    go true = refl
    go false = refl

-- the rule, test by test
module _ (a : Allowance) (m : ℕ) (q : Quota) (e : q ≡ quota_at a m) where
  pub allowed_within : q.used < q.share → true ≡ has_allowance a m
  unfolding has_allowance
  allowed_within h = rw (← e, lt-ltb _ _ h)

  pub allowed_beyond :
      (b : Bool) → b ≡ ltb (reserved a.quotas) a.steps → q.share ≤ q.used → q.used < q.ceiling → b ≡ has_allowance a m
  unfolding has_allowance
  allowed_beyond b f h k = rw (← e, le-ltb _ _ h, lt-ltb _ _ k) f

  pub allowed_no : q.share ≤ q.used → q.ceiling ≤ q.used → false ≡ has_allowance a m
  unfolding has_allowance
  allowed_no h k = rw (← e, le-ltb _ _ h, le-ltb _ _ k)

-- an allowed step is below a number that fits
pub allowed_fits :
    (a : Allowance) (m n : ℕ) → has_allowance a m ≡ true → (quota_at a m).share ≤ n → (quota_at a m).ceiling ≤ n → (quota_at a m).used + 1 ≤ n
unfolding has_allowance
allowed_fits a m n e h k = go (allowed_rule (quota_at a m) _ _ e)
  where
    go : Rule (quota_at a m) (reserved a.quotas) a.steps → (quota_at a m).used + 1 ≤ n
    go (Rule.within_share p) = omega arith
    go (Rule.beyond_share p r s) = omega arith
