-- The simulation by the tests that decide it, over plain values
use Prim.Native.Nat.{ℕ, zero, suc, ◌+◌, ◌<◌, ◌≤◌}
use mathlib.Core.Bool.{Bool, true, false, not, cond}
use mathlib.Core.Logic.{⊎_elim}
use mathlib.Core.List.{List, [], ◌∷◌, map}
use mathlib.Core.Path.{◌≡◌, refl, sym, ◌∙◌, ap}
use native.Mathlib.Omega.{arith}
use native.Mathlib.Numerals.{add-one}
use lib.Dec.{eqb, leb, ltb}
use lib.ListN.{length, get_or, set, take, drop, length-take, length-set, length-map}
use lib.Seq.{set-get_or, get_or-take, map-set_same, length-take-le, take-set-lt}
use Rattle.std.specs.List.{position_or_len}
use Rattle.std.specs.Prelude.{Some, None, Result, Ok, Err}
use Rattle.std.proofs.lemmas.List.Quantifiers.{position-Some}
use Rattle.std.proofs.lemmas.List.Recursion.{is_position_or_len}
use Rattle.std.proofs.lemmas.List.Sums.{position_or_len_is}
use Rattle.std.proofs.lemmas.Result.{err_from_is_err_and}
use Rattle.std.specs.Result.{IsErrAnd}
use borrow.Author.Tests.{lt-ltb, le-ltb, eqb-true, ltb-false, leb-true, leb-false, not-true}
use Rattle.construction.specs.declared.{cells.Words.Words, programs.Instruction.Instruction, programs.Program.Program, programs.Effect.Effect}
use Rattle.construction.specs.declared.{simulations.Item.Item, simulations.Dictionary.Dictionary, simulations.Simulation.Simulation}
use Rattle.construction.specs.declared.{simulations.Simulated.Simulated}
use Rattle.construction.specs.Instructions.{is_cell, effect_of, next_instruction, with_register, with_output, skipped}
use Rattle.programs.specs.Cells.{is_astray}
use Rattle.construction.specs.Effects.{Executed, touched, allocated, execute, on_executed}
use Rattle.construction.proofs.Basics.{and_true, true_or_false}
use Rattle.construction.specs.Dictionary.{no_item, noted, find, has, value_at, with_value, assign}
use Rattle.construction.specs.Dictionary as dictionaries
use Rattle.helping.specs.Numbers.{keys, place_of, revalued, with_values, Numbered, standing, ending, faulting, lacking, turned, Turns}
use Rattle.helping.specs.declared.simulation.Paused.{Paused}
use Rattle.construction.specs.Helping.{ended, faults, lacks, note_of, with_notes, on_lacking, simulate_from, simulate}

-- a value assigned
module _ (d : Dictionary) where
  assign_keys : (k x : ℕ) → keys (assign d k x) ≡ keys d
  unfolding assign
  assign_keys k x = map-set_same (λ (e : Item). e.variable) d.items k (with_value (get_or d.items k no_item) x) no_item refl

  assign_noted : (k x : ℕ) → length (noted (assign d k x)) ≡ length (noted d)
  unfolding assign
  assign_noted k x = simp (length-take, length-set)

-- the place of a variable among keys; the number of keys if it is not there
index_of : List ℕ → ℕ → ℕ
index_of [] v = 0
index_of (x ∷ xs) v = cond (eqb x v) 0 (suc (index_of xs v))

index_is : (v : ℕ) (xs : List ℕ) → index_of xs v ≡ position_or_len (λ k. eqb k v) xs
unfolding index_of
index_is v xs = is_position_or_len (λ ys. index_of ys v) (λ k. eqb k v) refl (λ y ys. ap (cond (eqb y v) 0) (omega arith)) xs

place_some : (xs : List ℕ) (v k : ℕ) → place_of xs v ≡ Some k → (k ≡ index_of xs v) × (k < length xs)
place_some xs v k e =
    let q = position-Some (λ x. eqb x v) xs k 0 e in
    (sym (index_is v xs ∙ position_or_len_is (λ x. eqb x v) xs k 0 (omega arith) q.2 (λ _. q.1)), q.0)

none_of : (b : Bool) (k : ℕ) → cond b (Some k) None ≡ None → b ≡ false
none_of true k e = cc
none_of false k e = refl

place_none : (xs : List ℕ) (v : ℕ) → place_of xs v ≡ None → length xs ≤ index_of xs v
place_none xs v e =
    let none = ltb-false (position_or_len (λ k. eqb k v) xs) (length xs) (none_of _ (position_or_len (λ k. eqb k v) xs) e) in
    rw (index_is v xs) none

-- the numbers of the first items
pub mapped_take : (f : Item → ℕ) (n : ℕ) (es : List Item) → map f (take n es) ≡ take n (map f es)
mapped_take f zero es = refl
mapped_take f (suc n) [] = refl
mapped_take f (suc n) (e ∷ es) = rw (mapped_take f n es)

-- the keys find what the dictionary finds
take_again {ℓ} : {A : Type ℓ} (n : ℕ) (l : List A) → take (length (take n l)) l ≡ take n l
take_again zero l = refl
take_again (suc n) [] = refl
take_again (suc n) (x ∷ l) = rw (take_again n l)

position_is : (v n : ℕ) (es : List Item) → index_of (take n (map (λ (e : Item). e.variable) es)) v ≡ dictionaries.position (take n es) v
unfolding dictionaries.position index_of
position_is v zero es = refl
position_is v (suc n) [] = refl
position_is v (suc n) (e ∷ es) = rw (position_is v n es)

-- how many items are noted, and their keys
abbrev pub Keyed : Dictionary → List ℕ → ℕ → Type 0
Keyed d ks end = (end ≡ length (noted d)) × (take end ks ≡ take end (keys d))

-- a list that begins with numbers of all noted items is long enough
long_enough : (d : Dictionary) (f : Item → ℕ) (xs : List ℕ) (end : ℕ) → end ≡ length (noted d) → take end xs ≡ take end (map f d.items) → end ≤ length xs
long_enough d f xs end h e =
    omega (arith, length-take end xs, ap length e, length-take end (map f d.items), length-map d.items f, length-take d.length d.items)

find_by_keys : (d : Dictionary) (ks : List ℕ) (v end k : ℕ) → Keyed d ks end → k ≡ index_of (take end ks) v → k ≡ find d v
find_by_keys d ks v end k h q =
    q ∙ rw (h.1, h.0) (position_is v (length (noted d)) d.items ∙ rw (take_again d.length d.items))

-- items with other values: with none, with the first of their own, ..
revalued_none : (es : List Item) → revalued es [] ≡ es
unfolding revalued
revalued_none [] = refl
revalued_none (e ∷ es) = refl

revalued_own : (n : ℕ) (es : List Item) → revalued es (take n (map (λ (e : Item). e.value) es)) ≡ es
unfolding revalued
revalued_own zero es = revalued_none es
revalued_own (suc n) [] = refl
revalued_own (suc n) (e ∷ es) = rw (revalued_own n es)

-- .. their keys and how many there are, ..
revalued_keys : (es : List Item) (xs : List ℕ) → map (λ (e : Item). e.variable) (revalued es xs) ≡ map (λ (e : Item). e.variable) es
unfolding revalued
revalued_keys [] xs = refl
revalued_keys (e ∷ es) [] = refl
revalued_keys (e ∷ es) (x ∷ xs) = rw (revalued_keys es xs)

revalued_length : (es : List Item) (xs : List ℕ) → length (revalued es xs) ≡ length es
unfolding revalued
revalued_length [] xs = refl
revalued_length (e ∷ es) [] = refl
revalued_length (e ∷ es) (x ∷ xs) = rw (revalued_length es xs)

-- .. the value at a place, ..
revalued_at :
    (es : List Item) (xs : List ℕ) (k : ℕ) → k < length es → k < length xs →
    get_or xs k 0 ≡ (get_or (revalued es xs) k no_item).value
unfolding revalued
revalued_at [] xs k p q = absurd (omega arith)
revalued_at (e ∷ es) [] k p q = absurd (omega arith)
revalued_at (e ∷ es) (x ∷ xs) zero p q = refl
revalued_at (e ∷ es) (x ∷ xs) (suc k) p q = revalued_at es xs k (omega arith) (omega arith)

-- .. another value at a place, ..
revalued_set :
    (es : List Item) (xs : List ℕ) (k x : ℕ) → k < length xs →
    revalued es (set xs k x) ≡ set (revalued es xs) k (with_value (get_or (revalued es xs) k no_item) x)
unfolding revalued
revalued_set [] xs k x q = refl
revalued_set (e ∷ es) [] k x q = absurd (omega arith)
revalued_set (e ∷ es) (y ∷ xs) zero x q = refl
revalued_set (e ∷ es) (y ∷ xs) (suc k) x q = rw (revalued_set es xs k x (omega arith))

-- .. and with one value more
revalued_more :
    (es : List Item) (xs : List ℕ) (k : ℕ) → k < length es → k < length xs →
    set (revalued es (take k xs)) k (with_value (get_or (revalued es (take k xs)) k no_item) (get_or xs k 0))
    ≡ revalued es (take (suc k) xs)
unfolding revalued
revalued_more [] xs k p q = absurd (omega arith)
revalued_more (e ∷ es) [] k p q = absurd (omega arith)
revalued_more (e ∷ es) (x ∷ xs) zero p q = rw (revalued_none es)
revalued_more (e ∷ es) (x ∷ xs) (suc k) p q = rw (revalued_more es xs k (omega arith) (omega arith))

-- .. the values that they then have, and other values once more
revalued_values : (es : List Item) (xs : List ℕ) → length xs ≤ length es → take (length xs) (map (λ (e : Item). e.value) (revalued es xs)) ≡ xs
unfolding revalued
revalued_values [] [] p = refl
revalued_values [] (x ∷ xs) p = absurd (omega arith)
revalued_values (e ∷ es) [] p = refl
revalued_values (e ∷ es) (x ∷ xs) p = rw (revalued_values es xs (omega arith))

revalued_twice : (es : List Item) (xs ys : List ℕ) → length xs ≡ length ys → revalued (revalued es xs) ys ≡ revalued es ys
unfolding revalued
revalued_twice [] xs ys p = refl
revalued_twice (e ∷ es) [] ys p = refl
revalued_twice (e ∷ es) (x ∷ xs) [] p = absurd (omega arith)
revalued_twice (e ∷ es) (x ∷ xs) (y ∷ ys) p = rw (revalued_twice es xs ys (omega arith))

-- a dictionary that takes values one after the other: none, and one more
pub no_values_lem : (d : Dictionary) → d ≡ with_values d []
no_values_lem d = rw (revalued_none d.items)

pub more_values :
    (d : Dictionary) (xs : List ℕ) (k : ℕ) (b : Dictionary) → b ≡ with_values d (take k xs) → k < length d.items → k < length xs →
    ◌≡◌ {A = Dictionary}
    (record { length = b.length; items = set b.items k (with_value (get_or b.items k no_item) (get_or xs k 0)) })
    (with_values d (take (k + 1) xs))
more_values d xs k b e p q = rw (e, add-one k, revalued_more d.items xs k p q)

-- a dictionary and the numbers that stand in it
module _ {ks before : List ℕ} {end : ℕ} {d : Dictionary} (h : Numbered ks before end d) where
  pub keyed : (xs : List ℕ) → Keyed (with_values d xs) ks end
  keyed xs = (
    h.count ∙ simp (length-take, revalued_length),
    h.keyed ∙ rw (revalued_keys d.items xs),
  )

  pub enough : end ≤ length ks
  enough = long_enough d (λ (e : Item). e.variable) ks end h.count h.keyed

  pub own_values : with_values d (take end before) ≡ d
  own_values = rw (h.valued, revalued_own end d.items)

  pub inside : end ≤ length d.items
  inside = omega (arith, h.count, length-take d.length d.items)

  pub enough_values : end ≤ length before
  enough_values = long_enough d (λ (e : Item). e.value) before end h.count h.valued

  module _ (xs : List ℕ) (same : length xs ≡ length before) (k : ℕ) (below : k < end) where
    among : k < length (take end xs)
    among = omega (arith, same, length-take end xs, enough_values)

    pub value_is : get_or xs k 0 ≡ value_at (with_values d (take end xs)) k
    value_is = sym (get_or-take end xs k 0 below) ∙ revalued_at d.items (take end xs) k (omega (arith, inside)) among

    pub assigned : (x : ℕ) → with_values d (take end (set xs k x)) ≡ assign (with_values d (take end xs)) k x
    unfolding assign
    assigned x = rw (take-set-lt end xs k x below, revalued_set d.items (take end xs) k x among)

  pub assigned_twice :
      (xs : List ℕ) → length xs ≡ length before → (k : ℕ) → k < end → (x j : ℕ) → j < end → (y : ℕ) →
      with_values d (take end (set (set xs k x) j y)) ≡ assign (assign (with_values d (take end xs)) k x) j y
  assigned_twice xs same k below x j under y =
      assigned (set xs k x) (length-set xs k x ∙ same) j under y ∙ ap (λ (b : Dictionary). assign b j y) (assigned xs same k below x)

-- a value assigned that was there
assign_own : (d : Dictionary) (k : ℕ) → assign d k (value_at d k) ≡ d
unfolding assign
assign_own d k = rw (set-get_or d.items k no_item)

-- numbers that variable 0 may hold
astray_true : (n x : ℕ) → is_astray n x ≡ true → (is_cell n x ≡ false) × (eqb x 0 ≡ false)
astray_true n x t =
    let a = and_true (not (eqb x 0)) (leb n x) t in
    let z = not-true (eqb x 0) a.0 in
    (rw (z, le-ltb x n (leb-true n x a.1)), z)

astray_false : (n x : ℕ) → is_astray n x ≡ false → eqb x 0 ≡ false → is_cell n x ≡ true
astray_false n x f z = let l : leb n x ≡ false = rw z at f in rw (z, lt-ltb x n (leb-false n x l))

no_cell : (n x : ℕ) → x ≡ 0 → is_cell n x ≡ false
no_cell n x e = rw e

-- a value assigned leaves the keys
keyed_assign : (ks : List ℕ) (end : ℕ) (d : Dictionary) (k x : ℕ) → Keyed d ks end → Keyed (assign d k x) ks end
keyed_assign ks end d k x q = (q.0 ∙ sym (assign_noted d k x), rw (assign_keys d k x) q.1)

-- a turn whose result is `total` is made from s and d at the effect e
pub record Here (n : ℕ) (total : Result Simulation Paused × Dictionary) (ks : List ℕ) (end : ℕ) (s : Simulation) (d : Dictionary) (e : Effect) : Type 0 where
  pub going : total ≡ turned n s d e
  pub keyed : Keyed d ks end

module _ {n : ℕ} {total : Result Simulation Paused × Dictionary} {ks : List ℕ} {end : ℕ} {s : Simulation} {d : Dictionary} {e : Effect} (h : Here n total ks end s d e) where
  pub stops : e ≡ Effect.Stop → (Err (ending s), d) ≡ total
  unfolding turned
  stops p = sym (h.going ∙ rw (p))

  pub faulted_at : e ≡ Effect.Fault → (Err (faulting s), d) ≡ total
  unfolding turned
  faulted_at p = sym (h.going ∙ rw (p))

  pub sets : (a x : ℕ) (t : Simulation) → e ≡ Effect.Set a x → t ≡ with_register s a x → total ≡ (Ok t, d)
  unfolding turned
  sets a x t p q = h.going ∙ rw (p, q)

  pub outputs : (a x : ℕ) (t : Simulation) → e ≡ Effect.Output a x → t ≡ with_output s a x → total ≡ (Ok t, d)
  unfolding turned
  outputs a x t p q = h.going ∙ rw (p, q)

  pub skips : (c : ℕ) (t : Simulation) → e ≡ Effect.Skip c → t ≡ skipped s c → total ≡ (Ok t, d)
  unfolding turned
  skips c t p q = h.going ∙ rw (p, q)

  -- the variable v is lacking
  module _ (v : ℕ) (gone : place_of (take end ks) v ≡ None) where
    past : end ≤ index_of (take end ks) v
    past =
        omega (
          arith,
          place_none (take end ks) v gone,
          length-take end ks,
          long_enough d (λ (e : Item). e.variable) ks end h.keyed.0 h.keyed.1,
        )

    absent : ltb (find d v) (length (noted d)) ≡ false
    absent = let p = past in le-ltb _ _ (rw (← find_by_keys d ks v end (index_of (take end ks) v) h.keyed refl, ← h.keyed.0) p)

    pub load_lacks : (a : ℕ) → e ≡ Effect.Load a v → (Err (lacking v s), d) ≡ total
    unfolding turned
    load_lacks a p = sym (h.going ∙ rw (p, absent))

    pub store_lacks : (x : ℕ) → e ≡ Effect.Store v x → (Err (lacking v s), d) ≡ total
    unfolding turned
    store_lacks x p = sym (h.going ∙ rw (p, absent))

  -- codes 13 and 14: variable 0 is
  module _ (gone : place_of (take end ks) 0 ≡ None) where
    pub allocate_lacks : (a : ℕ) → e ≡ Effect.Allocate a → (Err (lacking 0 s), d) ≡ total
    unfolding turned
    allocate_lacks a p = sym (h.going ∙ rw (p, absent 0 gone))

    pub free_lacks : (c : ℕ) → e ≡ Effect.Free c → (Err (lacking 0 s), d) ≡ total
    unfolding turned
    free_lacks c p = sym (h.going ∙ rw (p, absent 0 gone))

  -- it stands at k
  module _ (v k : ℕ) (place : place_of (take end ks) v ≡ Some k) where
    index : k ≡ index_of (take end ks) v
    index = (place_some (take end ks) v k place).0

    below : k < end
    below = omega (arith, (place_some (take end ks) v k place).1, length-take end ks)

    found : k ≡ find d v
    found = find_by_keys d ks v end k h.keyed index

    there : ltb k (length (noted d)) ≡ true
    there = let q = below in lt-ltb _ _ (rw h.keyed.0 at q)

    -- a value assigned moves no variable
    found_after : (j w : ℕ) → k ≡ find (assign d j w) v
    found_after j w = find_by_keys (assign d j w) ks v end k (keyed_assign ks end d j w h.keyed) index

    pub loads :
        (a x : ℕ) (t : Simulation) → e ≡ Effect.Load a v → x ≡ value_at d k → t ≡ with_register s a x →
        total ≡ (Ok t, d)
    unfolding turned
    loads a x t p y z = h.going ∙ rw (p, ← found, there, z, y)

    pub stores :
        (x : ℕ) (t : Simulation) (b : Dictionary) → e ≡ Effect.Store v x → b ≡ assign d k x → t ≡ skipped s 0 →
        total ≡ (Ok t, b)
    unfolding turned
    stores x t b p y z = h.going ∙ rw (p, ← found, there, z, y)

  -- codes 13 and 14: variable 0 stands at k
  module _ (k : ℕ) (first : place_of (take end ks) 0 ≡ Some k) where
    module _ (x : ℕ) (y : x ≡ value_at d k) {b : Bool} (t : b ≡ is_astray n x) where
      pub allocate_faults : (a : ℕ) → e ≡ Effect.Allocate a → b ≡ true → (Err (faulting s), d) ≡ total
      unfolding turned allocated
      allocate_faults a p q =
          let z = astray_true n x (sym t ∙ q) in
          sym (h.going ∙ rw (p, ← found 0 k first, there 0 k first, ← y, z.0, z.1))

      -- the cell, or variable 0 where there is none, is lacking
      pub allocate_lacks_cell :
          (a : ℕ) → e ≡ Effect.Allocate a → b ≡ false → place_of (take end ks) x ≡ None → (Err (lacking x s), d) ≡ total
      unfolding turned
      allocate_lacks_cell a p q gone =
          ⊎_elim
          (λ z. absurd (omega (arith, past x gone, ap (index_of (take end ks)) (eqb-true x 0 z), index 0 k first, below 0 k first)))
          (λ z. sym (h.going ∙ rw (p, ← found 0 k first, there 0 k first, ← y, astray_false n x (sym t ∙ q) z, absent x gone)))
          (true_or_false (eqb x 0))

      -- it stands at j
      module _ (a : ℕ) (p : e ≡ Effect.Allocate a) (q : b ≡ false) (j : ℕ) (place : place_of (take end ks) x ≡ Some j) where
        same_place : x ≡ 0 → j ≡ k
        same_place z = index x j place ∙ (ap (index_of (take end ks)) z ∙ sym (index 0 k first))

        pub allocates :
            (w : ℕ) (u : Simulation) (f : Dictionary) → w ≡ value_at d j → f ≡ assign (assign d k w) j 0 → u ≡ with_register s a x →
            total ≡ (Ok u, f)
        unfolding turned allocated
        allocates w u f v r o =
            ⊎_elim
            (λ z.
            let none : x ≡ 0 = eqb-true x 0 z in
            let same : f ≡ d =
            r ∙ rw (same_place none, v, same_place none, assign_own d k) (ap (assign d k) (sym none ∙ y) ∙ assign_own d k) in
            h.going ∙ rw (p, ← found 0 k first, there 0 k first, ← y, no_cell n x none, z, o, same, none))
            (λ z.
            h.going
            ∙ rw (
              p,
              ← found 0 k first,
              there 0 k first,
              ← y,
              astray_false n x (sym t ∙ q) z,
              ← found x j place,
              there x j place,
              ← v,
              ← found 0 k
                  first,
              ← found_after x j place k w,
              o,
              r,
            ))
            (true_or_false (eqb x 0))

    module _ (c : ℕ) (p : e ≡ Effect.Free c) where
      pub free_lacks_cell : place_of (take end ks) c ≡ None → (Err (lacking c s), d) ≡ total
      unfolding turned
      free_lacks_cell gone = sym (h.going ∙ rw (p, ← found 0 k first, there 0 k first, absent c gone))

      pub frees :
          (j : ℕ) → place_of (take end ks) c ≡ Some j → (w : ℕ) (u : Simulation) (f : Dictionary) → w ≡ value_at d k →
          f ≡ assign (assign d j w) k c → u ≡ skipped s 0 → total ≡ (Ok u, f)
      unfolding turned
      frees j place w u f v r o =
          h.going
          ∙ rw (p, ← found 0 k first, there 0 k first, ← found c j place, there c j place, ← v, ← found_after 0 k first j w, o, r)

-- a turn, and the rest of the simulation after it
abbrev after_turn : Result Simulation Paused → Dictionary → (Simulation → Dictionary → Simulated) → Simulated
after_turn (Ok s) d next = next s d
after_turn (Err p) d next = standing p d

abbrev on_turned : Result Simulation Paused × Dictionary → (Simulation → Dictionary → Simulated) → Simulated
on_turned x next = after_turn x.0 x.1 next

either :
    (next : Simulation → Dictionary → Simulated) (b : Bool) (x y : Result Simulation Paused × Dictionary) (z : Simulated) →
    on_turned x next ≡ z → on_turned (cond b x y) next ≡ cond b z (on_turned y next)
either next true x y z e = e
either next false x y z e = refl

turn_by :
    (next : Simulation → Dictionary → Simulated) (s : Simulation) (d : Dictionary) (l : List ℕ) (x : Executed) →
    on_turned
    (on_lacking d l (λ v. (Err (lacking v s), d))
    (on_executed x (Err (ending s), d) (Err (faulting s), d) (λ t w. (Ok t, with_notes d w)))) next
    ≡ on_lacking d l (λ v. lacks v s d) (on_executed x (ended s d) (faults s d) (λ t w. next t (with_notes d w)))
turn_by next s d [] Executed.Ends = refl
turn_by next s d [] Executed.Faults = refl
turn_by next s d [] (Executed.Goes t w) = refl
turn_by next s d (v ∷ l) x = either next (has d v) _ (Err (lacking v s), d) _ (turn_by next s d l x)

one_turn :
    (n : ℕ) (program : Program) (inputs : Words) (m : ℕ) (s : Simulation) (d : Dictionary) →
    simulate_from n program inputs (suc m) s d
    ≡ on_turned (turned n s d (effect_of n inputs s.registers (next_instruction program s.counter))) (simulate_from n program inputs m)
unfolding simulate_from turned
one_turn n program inputs m s d =
    let e : Effect = effect_of n inputs s.registers (next_instruction program s.counter) in
    sym (turn_by (simulate_from n program inputs m) s d (touched n (note_of d) e) (execute n (note_of d) s e))

-- a turn within a run: of the dictionary d only the values changed so far, and `fuel` instructions are left
module _ {ks before : List ℕ} {end : ℕ} {d : Dictionary} (h : Numbered ks before end d) where
  numbered_again : (xs : List ℕ) → length xs ≡ length before → Numbered ks xs end (with_values d (take end xs))
  numbered_again xs same =
      record {
        keyed = (keyed h (take end xs)).1;
        valued =
            let z : length (take end xs) ≡ end = length-take-le end xs (omega (arith, enough_values h)) in
            sym (rw z at (revalued_values d.items (take end xs) (omega (arith, inside h))));
        count = (keyed h (take end xs)).0;
      }

  revalued_again :
      (xs ys : List ℕ) → length xs ≡ length before → length ys ≡ length before →
      with_values (with_values d (take end xs)) (take end ys) ≡ with_values d (take end ys)
  revalued_again xs ys p q =
      rw (revalued_twice d.items (take end xs) (take end ys) (omega (arith, length-take end xs, length-take end ys)))

  module _ (n : ℕ) (program : Program) (inputs : Words) (total : Simulated) (fuel m : ℕ) (s : Simulation) (xs : List ℕ) (same : length xs ≡ length before)
      (going : total ≡ simulate_from n program inputs fuel s (with_values d (take end xs))) (some : fuel ≡ suc m) {instruction : Instruction}
      (here : instruction ≡ next_instruction program s.counter) {after : List ℕ} {r : Result Simulation Paused} (made : Turns n instruction inputs s ks end xs after r) where
    turn_is : total ≡ on_turned (r, with_values d (take end after)) (simulate_from n program inputs m)
    turn_is =
        let e = made.left (with_values d (take end xs)) (numbered_again xs same) in
        going ∙ rw (some, one_turn, ← here, e, revalued_again xs after same (made.long ∙ same))

    pub turn_goes : (t : Simulation) → r ≡ Ok t → total ≡ simulate_from n program inputs m t (with_values d (take end after))
    turn_goes t p = turn_is ∙ rw p

    pub turn_stands : (t : Paused) → r ≡ Err t → total ≡ standing t (with_values d (take end after))
    turn_stands t p = turn_is ∙ rw p

-- where the loop begins and ends
module _ (n : ℕ) (program : Program) (inputs : Words) (s : Simulation) (d : Dictionary) where
  pub simulate_start : simulate n program inputs s d ≡ simulate_from n program inputs 32 s d
  unfolding simulate
  simulate_start = refl

  pub simulate_end : (fuel : ℕ) (total : Simulated) → total ≡ simulate_from n program inputs fuel s d → fuel ≤ 0 → ended s d ≡ total
  unfolding simulate_from
  simulate_end fuel total p h = sym (p ∙ (let z : fuel ≡ 0 = omega arith in rw z))

-- what one instruction leaves by its effect e: the same values, or others
module _ {n : ℕ} {instruction : Instruction} {inputs : Words} {s : Simulation} {ks : List ℕ} {end : ℕ} {before : List ℕ} {r : Result Simulation Paused}
    {e : Effect} (is : e ≡ effect_of n inputs s.registers instruction) where
  pub leaves :
      (after : List ℕ) → length after ≡ length before → drop end after ≡ drop end before →
      ((d : Dictionary) → Numbered ks before end d →
      Here n (turned n s d (effect_of n inputs s.registers instruction)) ks end s (with_values d (take end before)) e →
      turned n s d (effect_of n inputs s.registers instruction) ≡ (r, with_values d (take end after))) →
      Turns n instruction inputs s ks end before after r
  leaves after p q f =
      record { long = p; rest = q; left = λ d h. f d h (record { going = rw (own_values h, is); keyed = keyed h (take end before) }) }

  pub stays :
      ((d : Dictionary) → Numbered ks before end d →
      Here n (turned n s d (effect_of n inputs s.registers instruction)) ks end s (with_values d (take end before)) e →
      turned n s d (effect_of n inputs s.registers instruction) ≡ (r, with_values d (take end before))) →
      Turns n instruction inputs s ks end before before r
  stays f = leaves before refl refl f

-- the place of a variable that stands among the first keys
pub inside_keys : (ks : List ℕ) (end v k : ℕ) → place_of (take end ks) v ≡ Some k → k < end
inside_keys ks end v k e = omega (arith, (place_some (take end ks) v k e).1, length-take end ks)

-- an error that is passed on
pub raised : (r : Result Simulation Paused) {e f : Paused} → IsErrAnd r (λ y. y ≡ e) → e ≡ f → r ≡ Err f
raised r h q = let p = err_from_is_err_and r h in p.1 ∙ ap Err (p.2 ∙ q)
