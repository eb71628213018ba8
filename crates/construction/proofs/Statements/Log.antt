-- 'Sorting the log by it yields the bench order' (document 02, order 4; specs/Log): the log of the done answers of any run, in any sequence.
use Prim.Native.Nat.{ℕ, suc, ◌≤◌, ◌<◌}
use mathlib.Core.Path.{◌≡◌, refl, sym, subst, ap, ◌∙◌}
use mathlib.Core.Bool.{true, false, cond, true≢false}
use mathlib.Core.Logic.{◌≢◌, ◌⊎◌, inl, inr, ⊎_elim}
use mathlib.Core.List.{List, [], ◌∷◌, ◌++◌}
use native.Mathlib.Omega.{arith}
use lib.ListN.{length}
use lib.Dec.{ltb}
use borrow.Author.Tests.{lt-ltb, le-ltb, ltb-true, ltb-false}
use Rattle.construction.specs.Opening.{opened}
use Rattle.construction.specs.History.{Entry, Finish, Return, Response, History, run}
use Rattle.construction.specs.Linearizability.{times, rank, finish_of, has_returned, Numbered, Agrees, AllAgree, ReturnedOnce}
use Rattle.construction.specs.Log.{logged, log_of, Permuted, insert_by_number, sorted, Below, Falling, returned_of, SortsToOrder}
use Rattle.construction.proofs.Basics.{on_test, true_or_false}
use Rattle.construction.proofs.Observing.Histories.{on_equal, chosen, passed, place_below, gate_rank}
use Rattle.construction.proofs.Observing.Runs.{opened_consistent}

lower_or_not : (a b : ℕ) → (a < b) ⊎ (b ≤ a)
lower_or_not a b = ⊎_elim (λ z. inl (ltb-true a b z)) (λ z. inr (ltb-false a b z)) (true_or_false (ltb a b))

-- a line is put behind a greater one, and before any other
behind : (x z : Finish) (l : List Finish) → x.gate < z.gate → insert_by_number x (z ∷ l) ≡ z ∷ insert_by_number x l
unfolding insert_by_number
behind x z l h = rw (lt-ltb x.gate z.gate h)

ahead : (x z : Finish) (l : List Finish) → z.gate ≤ x.gate → insert_by_number x (z ∷ l) ≡ x ∷ z ∷ l
unfolding insert_by_number
ahead x z l h = rw (le-ltb x.gate z.gate h)

-- two lines of different numbers may be put in either sequence
module _ (x y : Finish) (ne : x.gate ≢ y.gate) where
  either_empty : insert_by_number x (insert_by_number y []) ≡ insert_by_number y (insert_by_number x [])
  unfolding insert_by_number
  either_empty =
      ⊎_elim (λ h. cc (behind x y [] h, ahead y x [] (omega arith))) (λ h. cc (ahead x y [] h, behind y x [] (omega arith)))
      (lower_or_not x.gate y.gate)

  either : (l : List Finish) → insert_by_number x (insert_by_number y l) ≡ insert_by_number y (insert_by_number x l)
  either [] = either_empty
  either (z ∷ l) =
      ⊎_elim
      (λ p. ⊎_elim
      (λ q. cc (behind y z l q, behind x z (insert_by_number y l) p, either l, behind x z l p, behind y z (insert_by_number x l) q))
      (λ q. cc (ahead y z l q, behind x y (z ∷ l) (omega arith), behind x z l p, ahead y z (insert_by_number x l) q))
      (lower_or_not y.gate z.gate))
      (λ p. ⊎_elim
      (λ q. cc (behind y z l q, ahead x z (insert_by_number y l) p, ahead x z l p, behind y x (z ∷ l) (omega arith)))
      (λ q. ⊎_elim
      (λ h. cc (ahead y z l q, ahead x z l p, behind x y (z ∷ l) h, ahead y x (z ∷ l) (omega arith)))
      (λ h. cc (ahead y z l q, ahead x z l p, ahead x y (z ∷ l) h, behind y x (z ∷ l) (omega arith)))
      (lower_or_not x.gate y.gate))
      (lower_or_not y.gate z.gate))
      (lower_or_not x.gate z.gate)

-- no line of a list has the number of x; no two lines of a list have the same
abbrev Apart : Finish → List Finish → Type 0
Apart x [] = Unit
Apart x (y ∷ l) = (x.gate ≢ y.gate) × Apart x l

abbrev Untied : List Finish → Type 0
Untied [] = Unit
Untied (x ∷ l) = Apart x l × Untied l

apart_between : (x y : Finish) (front back : List Finish) → x.gate ≢ y.gate → Apart x (front ++ back) → Apart x (front ++ (y ∷ back))
apart_between x y [] back n h = (n, h)
apart_between x y (z ∷ front) back n h = (h.0, apart_between x y front back n h.1)

apart_front : (x : Finish) (front back : List Finish) → Apart x (front ++ back) → Apart x front
apart_front x [] back h = tt
apart_front x (z ∷ front) back h = (h.0, apart_front x front back h.1)

apart_permuted : (x : Finish) {l m : List Finish} → Permuted l m → Apart x l → Apart x m
apart_permuted x Permuted.none h = tt
apart_permuted x (Permuted.placed {x = y} front back p) h = apart_between x y front back h.0 (apart_permuted x p h.1)

-- sorting does not depend on the sequence
sorted_between :
    (x : Finish) (front back : List Finish) → Apart x front → sorted (front ++ (x ∷ back)) ≡ insert_by_number x (sorted (front ++ back))
unfolding sorted
sorted_between x [] back h = refl
sorted_between x (y ∷ front) back h =
    ap (insert_by_number y) (sorted_between x front back h.1) ∙ sym (either x y h.0 (sorted (front ++ back)))

sorted_permuted : {l m : List Finish} → Permuted l m → Untied l → sorted m ≡ sorted l
unfolding sorted
sorted_permuted Permuted.none h = refl
sorted_permuted (Permuted.placed {x} front back p) h =
    sorted_between x front back (apart_front x front back (apart_permuted x p h.0))
    ∙ ap (insert_by_number x) (sorted_permuted p h.1)

-- what has returned of an order: its numbers fall
module _ (rs : List Response) where
  returned_below : (n : ℕ) (fs : List Finish) → Numbered fs → length fs < n → Below n (returned_of rs fs)
  unfolding returned_of
  returned_below n [] h l = tt
  returned_below n (f ∷ fs) h l =
      on_test (Below n) (has_returned f.operation rs)
      (λ _. (omega (arith, h.0), returned_below n fs h.1 (omega arith))) (λ _. returned_below n fs h.1 (omega arith))

  returned_falls : (fs : List Finish) → Numbered fs → Falling (returned_of rs fs)
  unfolding returned_of
  returned_falls [] h = tt
  returned_falls (f ∷ fs) h =
      on_test Falling (has_returned f.operation rs)
      (λ _. (returned_below f.gate fs h.1 (omega (arith, h.0)), returned_falls fs h.1)) (λ _. returned_falls fs h.1)

first : (f : Finish) (l : List Finish) → Below f.gate l → insert_by_number f l ≡ f ∷ l
unfolding insert_by_number
first f [] h = refl
first f (g ∷ l) h = ahead f g l (omega (arith, h.0))

none_returned : (fs : List Finish) → returned_of [] fs ≡ []
unfolding returned_of has_returned
none_returned [] = refl
none_returned (f ∷ fs) = none_returned fs

-- one more operation returns
module _ (r : Response) (rs : List Response) (fresh : has_returned r.operation rs ≡ false) where
  absent : (fs : List Finish) → times r.operation fs ≡ 0 → returned_of (r ∷ rs) fs ≡ returned_of rs fs
  unfolding times returned_of has_returned
  absent [] h = refl
  absent (f ∷ fs) h =
      on_equal
      (λ b. cond b (suc (times r.operation fs)) (times r.operation fs) ≡ 0 → returned_of (r ∷ rs) (f ∷ fs) ≡ returned_of rs (f ∷ fs))
      f.operation r.operation (λ _ z. absurd (omega arith))
      (λ ne z. rw (passed r.operation f.operation true (has_returned f.operation rs) (λ e. ne (sym e)))
      (ap (λ (l : List Finish). cond (has_returned f.operation rs) (f ∷ l) l) (absent fs z))) h

  returns_more :
      (fs : List Finish) → Numbered fs → times r.operation fs ≡ 1 →
      insert_by_number (finish_of r.operation fs) (returned_of rs fs) ≡ returned_of (r ∷ rs) fs
  unfolding times finish_of returned_of has_returned
  returns_more [] h e = absurd (omega arith)
  returns_more (f ∷ fs) h e =
      on_equal
      (λ b. cond b (suc (times r.operation fs)) (times r.operation fs) ≡ 1 →
      insert_by_number (cond b f (finish_of r.operation fs)) (returned_of rs (f ∷ fs)) ≡ returned_of (r ∷ rs) (f ∷ fs))
      f.operation r.operation here (λ q z. there q (returns_more fs h.1 z)) e
    where
      here : f.operation ≡ r.operation → suc (times r.operation fs) ≡ 1 → insert_by_number f (returned_of rs (f ∷ fs)) ≡ returned_of (r ∷ rs) (f ∷ fs)
      here q z =
          rw (chosen r.operation f.operation true (has_returned f.operation rs) (sym q), ap (λ (k : ℕ). has_returned k rs) q ∙ fresh)
          (first f (returned_of rs fs) (returned_below rs f.gate fs h.1 (omega (arith, h.0)))
          ∙ ap (λ (l : List Finish). f ∷ l) (sym (absent fs (omega arith))))

      there :
          f.operation ≢ r.operation → insert_by_number (finish_of r.operation fs) (returned_of rs fs) ≡ returned_of (r ∷ rs) fs →
          insert_by_number (finish_of r.operation fs) (returned_of rs (f ∷ fs)) ≡ returned_of (r ∷ rs) (f ∷ fs)
      there q rest =
          rw (passed r.operation f.operation true (has_returned f.operation rs) (λ e. q (sym e)))
          (on_test
          (λ (l : List Finish). insert_by_number (finish_of r.operation fs) l ≡ cond (has_returned f.operation rs) (f ∷ returned_of (r ∷ rs) fs)
          (returned_of (r ∷ rs) fs))
          (has_returned f.operation rs)
          (λ b. rw b
          (behind (finish_of r.operation fs) f (returned_of rs fs)
          (omega (arith, h.0, gate_rank r.operation fs h.1, place_below r.operation fs))
          ∙ ap (λ (l : List Finish). f ∷ l) rest))
          (λ b. rw b rest))

-- two operations of one order have different ranks
ranked : (k : ℕ) (fs : List Finish) → times k fs ≡ 1 → 0 < rank k fs
unfolding times rank
ranked k [] h = absurd (omega arith)
ranked k (f ∷ fs) h =
    on_equal (λ b. cond b (suc (times k fs)) (times k fs) ≡ 1 → 0 < cond b (suc (length fs)) (rank k fs)) f.operation k
    (λ _ _. omega arith) (λ _ z. ranked k fs z) h

rank_same : (j k : ℕ) (fs : List Finish) → 0 < rank j fs → rank j fs ≡ rank k fs → j ≡ k
unfolding rank
rank_same j k [] h e = absurd (omega arith)
rank_same j k (f ∷ fs) h e =
    on_equal (λ b. 0 < cond b (suc (length fs)) (rank j fs) → cond b (suc (length fs)) (rank j fs) ≡ rank k (f ∷ fs) → j ≡ k) f.operation j
    (λ p _. on_equal (λ b. suc (length fs) ≡ cond b (suc (length fs)) (rank k fs) → j ≡ k) f.operation k
    (λ q _. sym p ∙ q) (λ _ z. absurd (omega (arith, place_below k fs))))
    (λ p y. on_equal (λ b. rank j fs ≡ cond b (suc (length fs)) (rank k fs) → j ≡ k) f.operation k
    (λ _ z. absurd (omega (arith, place_below j fs))) (λ _ z. rank_same j k fs y z)) h e

-- the log of the returns that agree with an order
module _ (order : List Finish) (numbers : Numbered order) where
  -- the number of a done answer is its rank
  number_rank : (k number : ℕ) (f : Finish) → finish_of k order ≡ f → f.gate ≡ number → rank k order ≡ number
  number_rank k number f e g = sym (gate_rank k order numbers) ∙ (ap (λ (x : Finish). x.gate) e ∙ g)

  apart :
      (k : ℕ) (x : Finish) → x.gate ≡ rank k order → times k order ≡ 1 → (rs : List Response) → has_returned k rs ≡ false → AllAgree order rs →
      Apart x (log_of rs)
  unfolding has_returned log_of
  apart k x g one [] h a = tt
  apart k x g one (r ∷ rs) h a =
      on_equal (λ b. cond b true (has_returned k rs) ≡ false → Apart x (logged r.operation r.return (log_of rs))) r.operation k
      (λ _ z. absurd (true≢false z)) (λ ne z. line r.return ne a.0 (apart k x g one rs z a.1)) h
    where
      line :
          (v : Return) → r.operation ≢ k → Agrees order r.operation v → Apart x (log_of rs) → Apart x (logged r.operation v (log_of rs))
      line (Return.done n o) ne q rest = (
        λ e. ne (rank_same r.operation k order (ranked r.operation order q.0)
            (number_rank r.operation n _ q.1 refl ∙ (sym e ∙ g))),
        rest,
      )
      line Return.exited ne q rest = rest

  log_untied : (rs : List Response) → ReturnedOnce rs → AllAgree order rs → Untied (log_of rs)
  unfolding log_of
  log_untied [] h a = tt
  log_untied (r ∷ rs) h a = line r.return a.0 (log_untied rs h.1 a.1)
    where
      line : (v : Return) → Agrees order r.operation v → Untied (log_of rs) → Untied (logged r.operation v (log_of rs))
      line (Return.done n o) q rest = (
        apart r.operation (record { operation = r.operation; gate = n; yields = o }) (sym (number_rank r.operation n _ q.1 refl)) q.0 rs h.0 a.1,
        rest,
      )
      line Return.exited q rest = rest

  log_sorted : (rs : List Response) → ReturnedOnce rs → AllAgree order rs → sorted (log_of rs) ≡ returned_of rs order
  unfolding log_of sorted
  log_sorted [] h a = sym (none_returned order)
  log_sorted (r ∷ rs) h a = line r.return a.0 (log_sorted rs h.1 a.1)
    where
      line :
          (v : Return) → Agrees order r.operation v → sorted (log_of rs) ≡ returned_of rs order →
          sorted (logged r.operation v (log_of rs)) ≡ returned_of (r ∷ rs) order
      line (Return.done n o) q rest = rw (← q.1, rest) (returns_more r rs h.0 order numbers q.0)
      line Return.exited q rest = rest ∙ sym (absent r rs h.0 order q)

-- the log of every run sorts to the order
pub log_sorts :
    (t : List ℕ) (es : List Entry) (log : List Finish) → Permuted (log_of (run (opened t).card es).history.returns) log →
    SortsToOrder (run (opened t).card es).history log
log_sorts t es log p =
    let s : History = (run (opened t).card es).history in
    let T = (opened_consistent t es).tracks in
    let sorts : sorted log ≡ returned_of s.returns s.order =
    sorted_permuted p (log_untied s.order T.numbers s.returns T.single T.agree)
    ∙ log_sorted s.order T.numbers s.returns T.single T.agree in
    record {
      untied = subst Falling (sym sorts) (returned_falls s.returns s.order T.numbers);
      order = sorts;
    }
