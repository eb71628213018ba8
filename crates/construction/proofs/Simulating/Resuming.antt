-- A simulation that lacked a variable and goes on once that is noted is the simulation from its start with that variable noted (lines H7, H20 to H30).
use Prim.Native.Nat.{ℕ, zero, suc, ◌+◌, ◌-◌, ◌≤◌, ◌<◌}
use mathlib.Core.Path.{◌≡◌, refl, sym, subst, ap, ◌∙◌}
use mathlib.Core.Bool.{true, false, false≢true}
use mathlib.Core.List.{List, [], ◌∷◌, ◌++◌}
use mathlib.Core.Logic.{⊎_elim}
use native.Mathlib.Omega.{arith}
use lib.Dec.{eqb, ltb}
use lib.ListN.{length, get_or, set, length-take}
use lib.Seq.{get_or-set_other, set_comm}
use borrow.Author.Tests.{lt-ltb, ltb-true}
use Rattle.construction.specs.Types.{Words, Program, Effect, Item, Dictionary, Simulation, Lacks, Simulated}
use Rattle.construction.specs.Instructions.{next_effect}
use Rattle.construction.specs.Effects.{Store, Executed, touched, execute, on_executed}
use Rattle.construction.specs.Dictionary.{no_item, noted, position, find, has, with_value, assign, insert}
use Rattle.construction.specs.Helping.{ended, faults, lacks, note_of, with_notes, on_lacking, simulate_from, simulate}
use Rattle.construction.proofs.Basics.{true_or_false, cond_true, cond_false, clash}
use Rattle.construction.proofs.Simulating.Sequential.{Short, past_end, advances}
use Rattle.construction.proofs.Simulating.Effects.{on_executed_lem, Each, each_map, EachStore, Storing, execute_stores, Same, same_executed}
use Rattle.construction.proofs.Simulating.Dictionaries.{has_in, value_in, has_put, has_position, has_more, found, noted_assign, noted_insert, assign_items}
use Rattle.construction.proofs.Simulating.Simulations.{Noted, on_lacking_lem}
use Rattle.construction.proofs.Simulating.Marks.{stores_map}

-- what a list has stands where it stood, with the value that it had, in the list with one item more
position_more : (b : List Item) (e : Item) (u : ℕ) → has_in b u ≡ true → position (b ++ (e ∷ [])) u ≡ position b u
unfolding has_in position
position_more [] e u h = absurd (false≢true h)
position_more (x ∷ b) e u h =
    ⊎_elim (λ (t : eqb x.variable u ≡ true). rw t)
    (λ (f : eqb x.variable u ≡ false). rw f (ap suc (position_more b e u (sym (cond_false _ true (has_in b u) f) ∙ h))))
    (true_or_false (eqb x.variable u))

value_more : (b : List Item) (e : Item) (u d : ℕ) → has_in b u ≡ true → value_in (b ++ (e ∷ [])) u d ≡ value_in b u d
unfolding has_in value_in
value_more [] e u d h = absurd (false≢true h)
value_more (x ∷ b) e u d h =
    ⊎_elim (λ (t : eqb x.variable u ≡ true). rw t)
    (λ (f : eqb x.variable u ≡ false). rw f (value_more b e u d (sym (cond_false _ true (has_in b u) f) ∙ h)))
    (true_or_false (eqb x.variable u))

-- a dictionary with room for one item more
record Spare (d : Dictionary) : Type 0 where
  below : d.length < 32
  array : length d.items ≡ 32

module _ (e : Item) where
  list : (d : Dictionary) → Spare d → noted (insert d e) ≡ noted d ++ (e ∷ [])
  list d q = noted_insert d e q.below q.array

  noted_more : (d : Dictionary) → Spare d → (u : ℕ) → has_in (noted d) u ≡ true → has_in (noted (insert d e)) u ≡ true
  noted_more d q u h = rw (list d q) (has_more (noted d) e u h)

  note_more : (d : Dictionary) → Spare d → (u : ℕ) → has_in (noted d) u ≡ true → note_of d u ≡ note_of (insert d e) u
  note_more d q u h =
      found d u 0 (has_position (noted d) u ∙ h)
      ∙ (sym (value_more (noted d) e u 0 h)
      ∙ (ap (λ (b : List Item). value_in b u 0) (sym (list d q))
      ∙ sym (found (insert d e) u 0 (has_position (noted (insert d e)) u ∙ noted_more d q u h))))

  inserted : (d : Dictionary) → Spare d → insert d e ≡ record { length = suc d.length; items = set d.items d.length e }
  unfolding insert
  inserted d q = cond_true (ltb d.length 32) _ _ (lt-ltb d.length 32 q.below)

  still_spare : (d : Dictionary) (k x : ℕ) → Spare d → Spare (assign d k x)
  unfolding assign
  still_spare d k x q = record { below = q.below; array = assign_items d k x ∙ q.array }

  -- a value stored to a noted variable, and one item more, in either sequence
  assign_at : (d : Dictionary) → Spare d → (k x : ℕ) → k < d.length → assign (insert d e) k x ≡ insert (assign d k x) e
  unfolding assign
  assign_at d q k x l =
      ap (λ (y : Dictionary). assign y k x) (inserted d q)
      ∙ ((λ i. record { length = suc d.length; items = items i }) ∙ sym (inserted (assign d k x) (still_spare d k x q)))
    where
      items :
          set (set d.items d.length e) k (with_value (get_or (set d.items d.length e) k no_item) x)
          ≡ set (set d.items k (with_value (get_or d.items k no_item) x)) d.length e
      items =
          ap (λ (y : Item). set (set d.items d.length e) k (with_value y x))
          (get_or-set_other d.items d.length k e no_item (λ z. absurd (omega arith)))
          ∙ set_comm d.items d.length k e _ (λ z. absurd (omega arith))

  assign_more :
      (d : Dictionary) → Spare d → (u x : ℕ) → has_in (noted d) u ≡ true →
      assign (insert d e) (find (insert d e) u) x ≡ insert (assign d (find d u) x) e
  assign_more d q u x h =
      ap (λ (b : List Item). assign (insert d e) (position b u) x) (list d q)
      ∙ (ap (λ (k : ℕ). assign (insert d e) k x) (position_more (noted d) e u h)
      ∙ assign_at d q (find d u) x
      (omega (arith, ltb-true (find d u) (length (noted d)) (has_position (noted d) u ∙ h), length-take d.length d.items)))

  notes_more :
      (d : Dictionary) → Spare d → (l : List Store) → EachStore (Noted (noted d)) l → with_notes (insert d e) l ≡ insert (with_notes d l) e
  notes_more d q [] h = refl
  notes_more d q (x ∷ l) h =
      let b : Dictionary = assign d (find d x.variable) x.value in
      ap (λ (y : Dictionary). with_notes y l) (assign_more d q x.variable x.value h.0)
      ∙ notes_more b (still_spare d (find d x.variable) x.value q) l
      (stores_map (Noted (noted d)) (Noted (noted b)) l
      (λ v z. ap (λ (y : List Item). has_in y v) (noted_assign d x.variable x.value (has_position (noted d) x.variable ∙ h.0))
      ∙ (has_put (noted d) x.variable x.value v ∙ z)) h.1)

  notes_spare : (d : Dictionary) → Spare d → (l : List Store) → Spare (with_notes d l)
  notes_spare d q [] = q
  notes_spare d q (x ∷ l) = notes_spare (assign d (find d x.variable) x.value) (still_spare d _ _ q) l

-- an effect all of whose variables two readings agree on touches the same by both
same_touched : (n : ℕ) (look other : ℕ → ℕ) (e : Effect) → Each (Same n look other) (touched n look e) → touched n look e ≡ touched n other e
same_touched n look other Effect.Stop q = refl
same_touched n look other Effect.Fault q = refl
same_touched n look other (Effect.Set a x) q = refl
same_touched n look other (Effect.Load a v) q = refl
same_touched n look other (Effect.Store v x) q = refl
same_touched n look other (Effect.Output a x) q = refl
same_touched n look other (Effect.Skip c) q = refl
same_touched n look other (Effect.Allocate a) q = rw q.0
same_touched n look other (Effect.Free c) q = refl

-- where all are noted nothing is lacking
none_lacking {ℓ} :
    {A : Type ℓ} (d : Dictionary) (l : List ℕ) (lacking : ℕ → A) (all : A) → Each (Noted (noted d)) l → on_lacking d l lacking all ≡ all
none_lacking d [] lacking all q = refl
none_lacking d (v ∷ l) lacking all q = cond_true (has d v) _ _ (has_position (noted d) v ∙ q.0) ∙ none_lacking d l lacking all q.1

-- what goes on alike
goes_alike {ℓ} :
    {A : Type ℓ} (o : Executed) (a b : A) (f g : Simulation → List Store → A) →
    ((t : Simulation) (l : List Store) → o ≡ Executed.Goes t l → f t l ≡ g t l) → on_executed o a b f ≡ on_executed o a b g
goes_alike Executed.Ends a b f g h = refl
goes_alike Executed.Faults a b f g h = refl
goes_alike (Executed.Goes t l) a b f g h = h t l refl

module _ (n : ℕ) (program : Program) (inputs : Words) (short : Short n program) where
  -- fuel that reaches the end is enough
  enough :
      (fuel : ℕ) (s : Simulation) (d : Dictionary) →
      32 ≤ fuel + s.counter → simulate_from n program inputs (suc fuel) s d ≡ simulate_from n program inputs fuel s d
  unfolding simulate_from
  enough zero s d h = rw (past_end n program inputs short s (omega arith))
  enough (suc fuel) s d h =
      ap (λ (x : Simulated). on_lacking d (touched n (note_of d) (next_effect n program inputs s)) (λ v. lacks v s d) x)
      (goes_alike (execute n (note_of d) s (next_effect n program inputs s)) (ended s d) (faults s d) _ _
      (λ t l e. enough fuel t (with_notes d l) (omega (arith, (advances n program inputs short (note_of d) s t l e).1))))

  more_fuel :
      (k fuel : ℕ) (s : Simulation) (d : Dictionary) →
      32 ≤ fuel + s.counter → simulate_from n program inputs (k + fuel) s d ≡ simulate_from n program inputs fuel s d
  more_fuel zero fuel s d h = ap (λ (j : ℕ). simulate_from n program inputs j s d) (omega arith)
  more_fuel (suc k) fuel s d h =
      let z : suc k + fuel ≡ suc (k + fuel) = omega arith in
      ap (λ (j : ℕ). simulate_from n program inputs j s d) z ∙ (enough (k + fuel) s d (omega arith) ∙ more_fuel k fuel s d h)

  full :
      (fuel : ℕ) (s : Simulation) (d : Dictionary) → fuel ≤ 32 →
      32 ≤ fuel + s.counter → simulate_from n program inputs fuel s d ≡ simulate_from n program inputs 32 s d
  full fuel s d m h =
      sym (more_fuel (32 - fuel) fuel s d h) ∙ ap (λ (k : ℕ). simulate_from n program inputs k s d) (omega arith)

  module _ (e : Item) (v : ℕ) where
    -- from a simulation that lacks v, with one item more
    abbrev Resumed : Simulated → Simulated → Type 0
    Resumed y x = x.pause ≡ Lacks v → y ≡ simulate_from n program inputs 32 x.simulation (insert x.dictionary e)

    -- one instruction all of whose variables are noted
    goes_with :
        (fuel : ℕ) (s : Simulation) (d : Dictionary) → Spare d → Each (Noted (noted d)) (touched n (note_of d) (next_effect n program inputs s)) →
        (t : Simulation) (l : List Store) → execute n (note_of d) s (next_effect n program inputs s) ≡ Executed.Goes t l →
        simulate_from n program inputs (suc fuel) s (insert d e) ≡ simulate_from n program inputs fuel t (insert (with_notes d l) e)
    unfolding simulate_from
    goes_with fuel s d q all t l z =
        let effect = next_effect n program inputs s in
        let same : Each (Same n (note_of d) (note_of (insert d e))) (touched n (note_of d) effect) =
        each_map (Noted (noted d)) (Same n (note_of d) (note_of (insert d e))) (touched n (note_of d) effect) (note_more e d q) all in
        let still : Each (Noted (noted (insert d e))) (touched n (note_of (insert d e)) effect) =
        subst (Each (Noted (noted (insert d e)))) (same_touched n (note_of d) (note_of (insert d e)) effect same)
        (each_map (Noted (noted d)) (Noted (noted (insert d e))) (touched n (note_of d) effect) (noted_more e d q) all) in
        let goes : execute n (note_of (insert d e)) s effect ≡ Executed.Goes t l =
        sym (same_executed n (note_of d) (note_of (insert d e)) s effect same) ∙ z in
        none_lacking (insert d e) (touched n (note_of (insert d e)) effect) _ _ still
        ∙
        (ap
        (λ (o : Executed). on_executed o (ended s (insert d e)) (faults s (insert d e))
        (λ t l. simulate_from n program inputs fuel t (with_notes (insert d e) l)))
        goes
        ∙ ap (λ (y : Dictionary). simulate_from n program inputs fuel t y)
        (notes_more e d q l (subst (Storing (Noted (noted d))) z (execute_stores (Noted (noted d)) n (note_of d) s effect all))))

    resumes_from :
        (fuel : ℕ) (s : Simulation) (d : Dictionary) → fuel ≤ 32 → 32 ≤ fuel + s.counter → Spare d →
        Resumed (simulate_from n program inputs fuel s (insert d e)) (simulate_from n program inputs fuel s d)
    unfolding simulate_from
    resumes_from zero s d m h q = λ z. clash (cc)
    resumes_from (suc fuel) s d m h q =
        on_lacking_lem (Resumed (simulate_from n program inputs (suc fuel) s (insert d e))) d (touched n (note_of d) (next_effect n program inputs s))
        (λ u _ _. full (suc fuel) s (insert d e) m h)
        (λ all. on_executed_lem (Resumed (simulate_from n program inputs (suc fuel) s (insert d e))) (execute n (note_of d) s (next_effect n program inputs s))
        (λ _ z. clash (cc)) (λ _ z. clash (cc))
        (λ t l z p. goes_with fuel s d q all t l z
        ∙ resumes_from fuel t (with_notes d l) (omega arith) (omega (arith, (advances n program inputs short (note_of d) s t l z).1)) (notes_spare e d q l) p))

    pub resumes :
        (s : Simulation) (d : Dictionary) → d.length < 32 → length d.items ≡ 32 →
        let x = simulate n program inputs s d in
        x.pause ≡ Lacks v → simulate n program inputs s (insert d e) ≡ simulate n program inputs x.simulation (insert x.dictionary e)
    unfolding simulate
    resumes s d l a = resumes_from 32 s d (omega arith) (omega arith) (record { below = l; array = a })
