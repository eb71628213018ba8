-- The theorems of order 14, over every list of requests
use Prim.Native.Nat.{ℕ, zero, suc, ◌+◌, ◌<◌, ◌≤◌}
use mathlib.Core.Path.{◌≡◌, refl, sym, ap, ◌∙◌}
use mathlib.Core.Bool.{true, false}
use mathlib.Core.Logic.{◌⊎◌, inl, inr}
use mathlib.Core.List.{List, [], ◌∷◌, map}
use native.Mathlib.Omega.{arith}
use lib.ListN.{length, get_or, length-set}
use lib.Seq.{ext_get_or}
use lib.Dec.{eqb, ltb}
use borrow.Author.Tests.{ltb-true, ltb-false, eqb-true, le-ltb, eq-eqb, ne_eqb}
use Rattle.construction.proofs.Basics.{true_or_false, true_false, clash}
use Rattle.allowance.specs.Types.{Quota, Allowance}
use Rattle.allowance.specs.Allowing.{empty, quota_at, reserved, used_sum, has_allowance, spend, unused, turn}
use Rattle.allowance.specs.Opening.{opened, is_accepted, allowance}
use Rattle.allowance.specs.Requests.{Kind, Request, Outcome, Machines, Answered, kept, acted, request, after, log}
use Rattle.allowance.specs.Counting.{counted, used_by, steps_of, used_by_all, steps_of_all, with_used}
use Rattle.allowance.specs.Projecting.{answers_alone, state_alone, with_request, requests_of, with_answer, answers_of}
use Rattle.allowance.proofs.Allowing.{Rule, allowed_rule, rule_allowed, used_reserved, get_or_unused, used_sum-unused, Sound, on_spend, allowed_there}
use Rattle.allowance.proofs.Allowing.{spend_sound, spend_used, turn_sound, opened-used_sum, accepted_sound, accepted_unused}
use Rattle.allowance.proofs.Cases.{on_request}

-- the terms of an allowance, which no request alters
pub record SameTerms (a b : Allowance) : Type 0 where
  pub steps : a.steps ≡ b.steps
  pub count : a.count ≡ b.count
  pub share : (m : ℕ) → (quota_at a m).share ≡ (quota_at b m).share
  pub ceiling : (m : ℕ) → (quota_at a m).ceiling ≡ (quota_at b m).ceiling

same_terms : {a : Allowance} → SameTerms a a
same_terms = record { steps = refl; count = refl; share = λ m. refl; ceiling = λ m. refl }

then_same : {a b c : Allowance} → SameTerms a b → SameTerms b c → SameTerms a c
then_same p q =
    record {
      steps = p.steps ∙ q.steps;
      count = p.count ∙ q.count;
      share = λ m. p.share m ∙ q.share m;
      ceiling = λ m. p.ceiling m ∙ q.ceiling m;
    }

spend_terms : (a : Allowance) (m : ℕ) → m < length a.quotas → SameTerms (spend a m) a
unfolding spend
spend_terms a m h =
    record {
      steps = refl;
      count = refl;
      share = λ j. on_spend (λ q. q.share ≡ (quota_at a j).share) a m j h (λ e. ap (λ (i : ℕ). (quota_at a i).share) e) (λ e. refl);
      ceiling = λ j. on_spend (λ q. q.ceiling ≡ (quota_at a j).ceiling) a m j h (λ e. ap (λ (i : ℕ). (quota_at a i).ceiling) e) (λ e. refl);
    }

turn_terms : (a : Allowance) → SameTerms (turn a) a
unfolding turn
turn_terms a =
    record {
      steps = refl;
      count = refl;
      share = λ m. ap (λ (q : Quota). q.share) (get_or_unused a.quotas m);
      ceiling = λ m. ap (λ (q : Quota). q.ceiling) (get_or_unused a.quotas m);
    }

-- a request keeps the number of quotas
length_unused : (l : List Quota) → length (map unused l) ≡ length l
length_unused [] = refl
length_unused (q ∷ l) = ap suc (length_unused l)

length_used : (f : ℕ → ℕ) (i : ℕ) (l : List Quota) → length (with_used f i l) ≡ length l
unfolding with_used
length_used f i [] = refl
length_used f i (q ∷ l) = ap suc (length_used f (suc i) l)

get_or_used :
    (f : ℕ → ℕ) (i : ℕ) (l : List Quota) (m : ℕ) → m < length l →
    get_or (with_used f i l) m empty ≡ record { share = (get_or l m empty).share; ceiling = (get_or l m empty).ceiling; used = f (i + m) }
unfolding with_used
get_or_used f i [] m h = absurd (omega arith)
get_or_used f i (q ∷ l) zero h = λ j. record { share = q.share; ceiling = q.ceiling; used = f (e j) }
  where
    e : i ≡ i + 0
    e = omega arith
get_or_used f i (q ∷ l) (suc m) h =
    get_or_used f (suc i) l m (omega arith) ∙
    (λ j. record { share = (get_or l m empty).share; ceiling = (get_or l m empty).ceiling; used = f (e j) })
  where
    e : suc i + m ≡ i + suc m
    e = omega arith

module _ {S R A : Type 0} (k : Kind S R A) where
  request_length : (x : Machines S) (r : Request R) → length (request k x r).machines.allowance.quotas ≡ length x.allowance.quotas
  unfolding request spend turn
  request_length x (Request.To j r) =
      on_request k x j r (λ y. length y.machines.allowance.quotas ≡ length x.allowance.quotas) (λ t. refl) (λ t u v. refl)
      (λ t u v. length-set x.allowance.quotas j _) (λ t u. refl)
  request_length x Request.Turn = length_unused x.allowance.quotas

  after_length_lem : (x : Machines S) (rs : List (Request R)) → length (after k x rs).allowance.quotas ≡ length x.allowance.quotas
  unfolding after
  after_length_lem x [] = refl
  after_length_lem x (r ∷ rs) = after_length_lem (request k x r).machines rs ∙ request_length x r

  -- one request
  request_sound : (x : Machines S) (r : Request R) → Sound x.allowance → Sound (request k x r).machines.allowance
  unfolding request
  request_sound x (Request.To m r) s =
      on_request k x m r (λ y. Sound y.machines.allowance) (λ t. s) (λ t u v. s) (λ t u v. spend_sound x.allowance m s v)
      (λ t u. s)
  request_sound x Request.Turn s = turn_sound x.allowance s

  request_terms : (x : Machines S) (r : Request R) → Sound x.allowance → SameTerms (request k x r).machines.allowance x.allowance
  unfolding request
  request_terms x (Request.To m r) s =
      on_request k x m r (λ y. SameTerms y.machines.allowance x.allowance) (λ t. same_terms) (λ t u v. same_terms)
      (λ t u v. spend_terms x.allowance m (allowed_there x.allowance m s v)) (λ t u. same_terms)
  request_terms x Request.Turn s = turn_terms x.allowance

  request_used :
      (x : Machines S) (r : Request R) (m : ℕ) → Sound x.allowance →
      (quota_at (request k x r).machines.allowance m).used ≡ used_by k m (quota_at x.allowance m).used r (request k x r).outcome
  unfolding request turn
  request_used x (Request.To j r) m s =
      on_request k x j r
      (λ y. (quota_at y.machines.allowance m).used ≡ used_by k m (quota_at x.allowance m).used (Request.To j r) y.outcome)
      (λ t. refl) (λ t u v. refl)
      (λ t u v. rw u (on_spend (λ q. q.used ≡ counted (eqb j m) (quota_at x.allowance m).used) x.allowance j m
      (allowed_there x.allowance j s v)
      (λ e. rw (eq-eqb j m e) (ap (λ (i : ℕ). (quota_at x.allowance i).used + 1) e)) (λ e. rw (ne_eqb j m e)))) (λ t u. rw u)
  request_used x Request.Turn m s = ap (λ (q : Quota). q.used) (get_or_unused x.allowance.quotas m)

  request_used_all :
      (x : Machines S) (r : Request R) → Sound x.allowance →
      used_sum (request k x r).machines.allowance.quotas ≡ used_by_all k (used_sum x.allowance.quotas) r (request k x r).outcome
  unfolding request turn
  request_used_all x (Request.To j r) s =
      on_request k x j r
      (λ y. used_sum y.machines.allowance.quotas ≡ used_by_all k (used_sum x.allowance.quotas) (Request.To j r) y.outcome)
      (λ t. refl) (λ t u v. refl) (λ t u v. rw u (spend_used x.allowance j s v)) (λ t u. rw u)
  request_used_all x Request.Turn s = used_sum-unused x.allowance.quotas

  -- every list of requests
  after_sound : (x : Machines S) (rs : List (Request R)) → Sound x.allowance → Sound (after k x rs).allowance
  unfolding after
  after_sound x [] s = s
  after_sound x (r ∷ rs) s = after_sound (request k x r).machines rs (request_sound x r s)

  after_terms : (x : Machines S) (rs : List (Request R)) → Sound x.allowance → SameTerms (after k x rs).allowance x.allowance
  unfolding after
  after_terms x [] s = same_terms
  after_terms x (r ∷ rs) s =
      then_same (after_terms (request k x r).machines rs (request_sound x r s)) (request_terms x r s)

  -- the steps used are the accepted steps since the last turn
  after_used :
      (x : Machines S) (rs : List (Request R)) (m : ℕ) → Sound x.allowance →
      (quota_at (after k x rs).allowance m).used ≡ steps_of k m (quota_at x.allowance m).used (log k x rs)
  unfolding after log steps_of
  after_used x [] m s = refl
  after_used x (r ∷ rs) m s =
      after_used (request k x r).machines rs m (request_sound x r s) ∙
      ap (λ (n : ℕ). steps_of k m n (log k (request k x r).machines rs)) (request_used x r m s)

  after_used_all :
      (x : Machines S) (rs : List (Request R)) → Sound x.allowance →
      used_sum (after k x rs).allowance.quotas ≡ steps_of_all k (used_sum x.allowance.quotas) (log k x rs)
  unfolding after log steps_of_all
  after_used_all x [] s = refl
  after_used_all x (r ∷ rs) s =
      after_used_all (request k x r).machines rs (request_sound x r s) ∙
      ap (λ (n : ℕ). steps_of_all k n (log k (request k x r).machines rs)) (request_used_all x r s)

  -- requests to one machine leave the others alone, and a turn leaves all alone
  pub others_kept :
      (x : Machines S) (j m : ℕ) (r : R) → (j ≡ m → ⊥) → (request k x (Request.To j r)).machines.states m ≡ x.states m
  others_kept x j m r n =
      on_request k x j r (λ y. y.machines.states m ≡ x.states m) (λ t. refl) (λ t u v. refl) (λ t u v. rw (ne_eqb j m n))
      (λ t u. rw (ne_eqb j m n))

  pub turn_keeps : (x : Machines S) (m : ℕ) → (request k x Request.Turn).machines.states m ≡ x.states m
  unfolding request
  turn_keeps x m = refl

  -- 'a machine not there is 5', and no other request is (a machine's own refusals are answers of its own)
  pub not_there : (x : Machines S) (m : ℕ) (r : R) → x.allowance.count ≤ m → request k x (Request.To m r) ≡ kept x Outcome.NoMachine
  unfolding request
  not_there x m r h = rw (le-ltb m x.allowance.count h)

  pub only_not_there : (x : Machines S) (m : ℕ) (r : R) → (request k x (Request.To m r)).outcome ≡ Outcome.NoMachine → x.allowance.count ≤ m
  only_not_there x m r =
      on_request k x m r (λ y. y.outcome ≡ Outcome.NoMachine → x.allowance.count ≤ m) (λ t e. ltb-false m _ t)
      (λ t u v e. clash (cc)) (λ t u v e. clash (cc)) (λ t u e. clash (cc))

  -- 19 exactly when the machine is there and itself accepts the step, and the rule doesn't allow it; and then everything stays as it was
  pub record Stopped (x : Machines S) (m : ℕ) (r : R) : Type 0 where
    pub there : m < x.allowance.count
    pub steps : k.is_step r (k.act (x.states m) r).answer ≡ true
    pub rule : Rule (quota_at x.allowance m) (reserved x.allowance.quotas) x.allowance.steps → ⊥

  pub nineteen_only : (x : Machines S) (m : ℕ) (r : R) → (request k x (Request.To m r)).outcome ≡ Outcome.NoAllowance → Stopped x m r
  unfolding has_allowance
  nineteen_only x m r =
      on_request k x m r (λ y. y.outcome ≡ Outcome.NoAllowance → Stopped x m r) (λ t e. clash (cc))
      (λ t u v e. record {
        there = ltb-true m _ t;
        steps = u;
        rule = λ w. true_false (has_allowance x.allowance m) (rule_allowed _ _ _ w) v;
      }) (λ t u v e. clash (cc)) (λ t u e. clash (cc))

  pub nineteen : (x : Machines S) (m : ℕ) (r : R) → Stopped x m r → request k x (Request.To m r) ≡ kept x Outcome.NoAllowance
  unfolding has_allowance
  nineteen x m r s =
      on_request k x m r (λ y. y ≡ kept x Outcome.NoAllowance) (λ t. absurd (omega (arith, ltb-false m x.allowance.count t, s.there)))
      (λ t u v. refl) (λ t u v. absurd (s.rule (allowed_rule _ _ _ v)))
      (λ t u. absurd (true_false (k.is_step r (k.act (x.states m) r).answer) s.steps u))

  -- projection: what one request does to the two lists of machine m and to its state, if it is there
  record Projects (x : Machines S) (m : ℕ) (r : Request R) (y : Answered S A) : Type 0 where
    pub answers :
        (l : List R) →
        with_answer m r y.outcome (answers_alone k (y.machines.states m) l) ≡ answers_alone k (x.states m) (with_request m r y.outcome l)
    pub state : (l : List R) → state_alone k (y.machines.states m) l ≡ state_alone k (x.states m) (with_request m r y.outcome l)

  projects_acted :
      (x : Machines S) (m j : ℕ) (r : R) (a : Allowance) → Projects x m (Request.To j r) (acted x j (k.act (x.states j) r) a)
  unfolding answers_alone state_alone
  projects_acted x m j r a = go (true_or_false (eqb j m))
    where
      go : (eqb j m ≡ true) ⊎ (eqb j m ≡ false) → Projects x m (Request.To j r) (acted x j (k.act (x.states j) r) a)
      go (inl e) =
          let d = eqb-true j m e in
          record {
            answers = λ l. rw e (ap (λ (i : ℕ). answers_alone k (x.states i) (r ∷ l)) d);
            state = λ l. rw e (ap (λ (i : ℕ). state_alone k (x.states i) (r ∷ l)) d);
          }
      go (inr e) = record { answers = λ l. rw e; state = λ l. rw e }

  request_projects :
      (x : Machines S) (m : ℕ) (r : Request R) → m < x.allowance.count → Projects x m r (request k x r)
  unfolding request
  request_projects x m (Request.To j r) h =
      on_request k x j r (Projects x m (Request.To j r))
      (λ t. let e = ne_eqb j m (λ p. omega (arith, p, ltb-false j x.allowance.count t)) in record { answers = λ l. rw e; state = λ l. rw e })
      (λ t u v. record { answers = λ l. refl; state = λ l. refl })
      (λ t u v. projects_acted x m j r (spend x.allowance j)) (λ t u. projects_acted x m j r x.allowance)
  request_projects x m Request.Turn h = record { answers = λ l. refl; state = λ l. refl }

  pub request_count : (x : Machines S) (r : Request R) → (request k x r).machines.allowance.count ≡ x.allowance.count
  unfolding request spend turn
  request_count x (Request.To j r) =
      on_request k x j r (λ y. y.machines.allowance.count ≡ x.allowance.count) (λ t. refl) (λ t u v. refl) (λ t u v. refl) (λ t u. refl)
  request_count x Request.Turn = refl

  -- 'each machine answers as it would alone with its own calls, less the steps that got 19'
  pub answers_alone_lem :
      (x : Machines S) (rs : List (Request R)) (m : ℕ) → m < x.allowance.count →
      answers_of m (log k x rs) ≡ answers_alone k (x.states m) (requests_of m (log k x rs))
  unfolding log answers_of requests_of answers_alone
  answers_alone_lem x [] m h = refl
  answers_alone_lem x (r ∷ rs) m h =
      ap (with_answer m r (request k x r).outcome) (answers_alone_lem (request k x r).machines rs m (rw request_count h)) ∙
      (request_projects x m r h).answers (requests_of m (log k (request k x r).machines rs))

  pub state_alone_lem :
      (x : Machines S) (rs : List (Request R)) (m : ℕ) → m < x.allowance.count →
      (after k x rs).states m ≡ state_alone k (x.states m) (requests_of m (log k x rs))
  unfolding log after requests_of state_alone
  state_alone_lem x [] m h = refl
  state_alone_lem x (r ∷ rs) m h =
      state_alone_lem (request k x r).machines rs m (rw request_count h) ∙
      (request_projects x m r h).state (requests_of m (log k (request k x r).machines rs))

  -- From an accepted opening
  module _ (count steps : ℕ) (l : List Quota) (accepted : is_accepted count steps l ≡ true) (f : ℕ → S) (rs : List (Request R)) where
    abbrev pub opening : Machines S
    opening = record { allowance = allowance count steps l; states = f }

    abbrev pub now : Machines S
    now = after k opening rs

    -- the accepted steps of a machine since the last turn
    abbrev pub used : ℕ → ℕ
    used m = steps_of k m 0 (log k opening rs)

    abbrev pub share : ℕ → ℕ
    share m = (get_or (opened count l) m empty).share

    abbrev pub ceiling : ℕ → ℕ
    ceiling m = (get_or (opened count l) m empty).ceiling

    sound : Sound (allowance count steps l)
    sound = accepted_sound count steps l accepted

    pub used_now : (m : ℕ) → (quota_at now.allowance m).used ≡ used m
    used_now m =
        after_used opening rs m sound ∙ ap (λ (n : ℕ). steps_of k m n (log k opening rs)) (accepted_unused count steps l m)

    pub terms_now : SameTerms now.allowance (allowance count steps l)
    terms_now = after_terms opening rs sound

    -- 'Nobody passes a ceiling'
    pub never_above_ceiling : (m : ℕ) → used m ≤ ceiling m
    never_above_ceiling m = omega (arith, (after_sound opening rs sound).below m, used_now m, terms_now.ceiling m)

    -- 'all together never pass T'
    pub never_above_turn : steps_of_all k 0 (log k opening rs) ≤ steps
    never_above_turn =
        omega (
          arith,
          (after_sound opening rs sound).room,
          used_reserved now.allowance.quotas,
          after_used_all opening rs sound ∙ ap (λ (n : ℕ). steps_of_all k n (log k opening rs)) (opened-used_sum count l),
          terms_now.steps,
        )

    -- 'Within its share a machine's step always has its allowance'
    pub share_is_sure :
        (m : ℕ) (r : R) → used m < share m →
        (request k now (Request.To m r)).outcome ≡ Outcome.NoAllowance → ⊥
    share_is_sure m r h e =
        (nineteen_only now m r e).rule (Rule.within_share (omega (arith, used_now m, terms_now.share m)))

    -- the quotas now: shares and ceilings of the opening, and the accepted steps since the last turn
    pub quotas_now : now.allowance.quotas ≡ with_used used 0 (opened count l)
    quotas_now =
        ext_get_or empty now.allowance.quotas (with_used used 0 (opened count l)) (after_length_lem opening rs ∙ sym (length_used used 0 (opened count l)))
        (λ m h. same m (omega (arith, after_length_lem opening rs)) ∙ sym (get_or_used used 0 (opened count l) m (omega (arith, after_length_lem opening rs))))
      where
        same :
            (m : ℕ) → m < length (opened count l) →
            quota_at now.allowance m ≡
            record { share = share m; ceiling = ceiling m; used = used (0 + m) }
        same m h = λ i. record { share = terms_now.share m i; ceiling = terms_now.ceiling m i; used = (used_now m ∙ ap used e) i }
          where
            e : m ≡ 0 + m
            e = omega arith

    -- 19 exactly when, by the terms of the opening and the requests and their answers so far
    pub record Exceeds (m : ℕ) (r : R) : Type 0 where
      pub there : m < count
      pub steps_alone : k.is_step r (k.act (now.states m) r).answer ≡ true
      pub beyond : share m ≤ used m
      pub exhausted : (ceiling m ≤ used m) ⊎ (steps ≤ reserved (with_used used 0 (opened count l)))

    module _ (m : ℕ) (refused : Rule (quota_at now.allowance m) (reserved now.allowance.quotas) now.allowance.steps → ⊥) where
      not_within : (ltb (used m) (share m) ≡ true) ⊎ (ltb (used m) (share m) ≡ false) → share m ≤ used m
      not_within (inl h) = absurd (refused (Rule.within_share (omega (arith, ltb-true (used m) (share m) h, used_now m, terms_now.share m))))
      not_within (inr h) = ltb-false (used m) (share m) h

      all_kept :
          used m < ceiling m →
          (ltb (reserved now.allowance.quotas) now.allowance.steps ≡ true) ⊎
          (ltb (reserved now.allowance.quotas) now.allowance.steps ≡ false) →
          steps ≤ reserved (with_used used 0 (opened count l))
      all_kept h (inl z) =
          absurd
          (refused
          (Rule.beyond_share (omega (arith, not_within (true_or_false (ltb (used m) (share m))), used_now m, terms_now.share m))
          (omega (arith, used_now m, terms_now.ceiling m)) (ltb-true _ _ z)))
      all_kept h (inr z) =
          omega
          (arith, ltb-false (reserved now.allowance.quotas) now.allowance.steps z, ap reserved quotas_now, terms_now.steps)

      none_left :
          (ltb (used m) (ceiling m) ≡ true) ⊎ (ltb (used m) (ceiling m) ≡ false) →
          (ceiling m ≤ used m) ⊎ (steps ≤ reserved (with_used used 0 (opened count l)))
      none_left (inl h) = inr (all_kept (ltb-true (used m) (ceiling m) h) (true_or_false _))
      none_left (inr h) = inl (ltb-false (used m) (ceiling m) h)

    pub nineteen_says : (m : ℕ) (r : R) → (request k now (Request.To m r)).outcome ≡ Outcome.NoAllowance → Exceeds m r
    nineteen_says m r e =
        let s = nineteen_only now m r e in
        record {
          there = omega (arith, s.there, terms_now.count);
          steps_alone = s.steps;
          beyond = not_within m s.rule (true_or_false _);
          exhausted = none_left m s.rule (true_or_false _);
        }

    pub exceeds_nineteen : (m : ℕ) (r : R) → Exceeds m r → request k now (Request.To m r) ≡ kept now Outcome.NoAllowance
    exceeds_nineteen m r x =
        nineteen now m r
        (record { there = omega (arith, x.there, terms_now.count); steps = x.steps_alone; rule = λ w. never w x.exhausted })
      where
        never :
            Rule (quota_at now.allowance m) (reserved now.allowance.quotas) now.allowance.steps →
            (ceiling m ≤ used m) ⊎ (steps ≤ reserved (with_used used 0 (opened count l))) → ⊥
        never (Rule.within_share h) e = omega (arith, x.beyond, used_now m, terms_now.share m)
        never (Rule.beyond_share h b c) (inl e) = omega (arith, used_now m, terms_now.ceiling m)
        never (Rule.beyond_share h b c) (inr e) = omega (arith, ap reserved quotas_now, terms_now.steps)
