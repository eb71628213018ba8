-- A helper's simulation on its dictionary agrees with the sequential run (lines H1 to H30).
use Prim.Native.Nat.{ℕ, zero, suc, ◌+◌, ◌-◌, ◌≤◌, ◌<◌}
use mathlib.Core.Path.{◌≡◌, refl, sym, subst, ap, ◌∙◌}
use mathlib.Core.Bool.{true, false, cond, false≢true}
use mathlib.Core.List.{List, [], ◌∷◌, ◌++◌}
use mathlib.Core.Logic.{◌⊎◌, inl, inr, ⊎_elim}
use native.Mathlib.Omega.{arith}
use native.Mathlib.Decide.{ℕ_discrete}
use lib.ListN.{length, get_or, set, length-set, length-replicate}
use Rattle.construction.specs.Types.{Words, Program, Effect, Item, Dictionary, Simulation, Pause, Ended, Faulted, Lacks, Simulated}
use Rattle.construction.specs.Instructions.{is_cell, next_instruction, next_effect, fetch, faulted, started}
use Rattle.construction.specs.Effects.{Store, Executed, touched, execute, on_executed}
use Rattle.construction.specs.Sequential.{Ending, ending, word_at, with_stores, next_executed, run_from, committed, sequential}
use Rattle.construction.specs.Dictionary.{no_item, empty, noted, find, has, with_value, assign, insert}
use Rattle.construction.specs.Helping.{note_of, with_notes, on_lacking, simulate_from, simulate}
use Rattle.construction.proofs.Basics.{on_test, on_set, true_or_false, cond_false, eqb_refl}
use Rattle.construction.proofs.Simulating.Sequential.{Short, fetch_end, past_end, advances, run_step}
use Rattle.construction.proofs.Simulating.Effects.{on_executed_lem, MarkKept, execute_mark, Each, each_map, each_both, EachStore, Storing, execute_stores}
use Rattle.construction.proofs.Simulating.Effects.{Same, same_executed, Touching, touches}
use Rattle.construction.proofs.Simulating.Dictionaries.{has_in, value_in, put_in, AllIn, all_put, all_snoc, Keyed, keyed_put, keyed_snoc}
use Rattle.construction.proofs.Simulating.Dictionaries.{value_none, value_put_same, value_put_other, value_snoc_same, value_snoc_other}
use Rattle.construction.proofs.Simulating.Dictionaries.{has_put, has_position, has_snoc, has_more, found, noted_assign, noted_insert, insert_length}
use Rattle.construction.proofs.Simulating.Dictionaries.{insert_items, assign_items}
use Rattle.construction.specs.Weight.{weight_of, weight_before, weight}
use Rattle.construction.proofs.Simulating.Weights.{weight_shortened, weight_later, weight_suc}
use borrow.Author.Tests.{ltb-true, ltb-false}
use lib.Dec.{ltb}

-- how many variables of a list are noted before the first that is not
unfoldable pub reached : List Item → List ℕ → ℕ
reached b [] = 0
reached b (v ∷ l) = cond (has_in b v) (suc (reached b l)) 0

-- v is the first that is not noted
abbrev pub Lacking : List Item → List ℕ → ℕ → Type 0
Lacking b [] v = ⊥
Lacking b (u ∷ l) v = ((has_in b u ≡ false) × (u ≡ v)) ⊎ ((has_in b u ≡ true) × Lacking b l v)

-- all are noted
abbrev pub Noted : List Item → ℕ → Type 0
Noted b v = has_in b v ≡ true

reached_most : (b : List Item) (l : List ℕ) → reached b l ≤ length l
unfolding reached
reached_most b [] = omega arith
reached_most b (v ∷ l) =
    on_test (λ k. k ≤ suc (length l)) (has_in b v) (λ _. omega (arith, reached_most b l)) (λ _. omega arith)

lacking_fewer : (b : List Item) (l : List ℕ) (v : ℕ) → Lacking b l v → reached b l < length l
unfolding reached
lacking_fewer b [] v q = absurd q
lacking_fewer b (u ∷ l) v (inl q) = rw q.0 (omega arith)
lacking_fewer b (u ∷ l) v (inr q) = rw q.0 (omega (arith, lacking_fewer b l v q.1))

lacking_absent : (b : List Item) (l : List ℕ) (v : ℕ) → Lacking b l v → has_in b v ≡ false
lacking_absent b [] v q = absurd q
lacking_absent b (u ∷ l) v (inl q) = rw (← q.1) q.0
lacking_absent b (u ∷ l) v (inr q) = lacking_absent b l v q.1

lacking_inside : (P : ℕ → Type 0) (b : List Item) (l : List ℕ) (v : ℕ) → Each P l → Lacking b l v → P v
lacking_inside P b [] v h q = absurd q
lacking_inside P b (u ∷ l) v h (inl q) = rw (← q.1) h.0
lacking_inside P b (u ∷ l) v h (inr q) = lacking_inside P b l v h.1 q.1

-- once it is noted, one more is reached at least
lacking_noted :
    (b : List Item) (e : Item) (l : List ℕ) (v : ℕ) → e.variable ≡ v → Lacking b l v → suc (reached b l) ≤ reached (b ++ (e ∷ [])) l
unfolding reached
lacking_noted b e [] v h q = absurd q
lacking_noted b e (u ∷ l) v h (inl q) =
    let present : has_in (b ++ (e ∷ [])) u ≡ true =
    has_snoc b e u q.0 ∙ rw (h, ← q.1) (eqb_refl u) in
    rw (q.0, present) (omega arith)
lacking_noted b e (u ∷ l) v h (inr q) =
    rw (q.0, has_more b e u q.0) (omega (arith, lacking_noted b e l v h q.1))

-- by cases on the first that is not noted
pub on_lacking_lem {ℓ κ} :
    {A : Type ℓ} (P : A → Type κ) (d : Dictionary) (l : List ℕ) {lacking : ℕ → A} {all : A} →
    ((v : ℕ) → Lacking (noted d) l v → P (lacking v)) → (Each (Noted (noted d)) l → P all) → P (on_lacking d l lacking all)
on_lacking_lem P d [] p q = q tt
on_lacking_lem P d (v ∷ l) p q =
    on_test P (has d v)
    (λ t. let h = sym (has_position (noted d) v) ∙ t in on_lacking_lem P d l (λ u r. p u (inr (h, r))) (λ r. q (h, r)))
    (λ f. p v (inl (sym (has_position (noted d) v) ∙ f, refl)))

-- what is stored leaves the length of a dictionary
notes_length : (d : Dictionary) (l : List Store) → (with_notes d l).length ≡ d.length
unfolding assign
notes_length d [] = refl
notes_length d (x ∷ l) = notes_length (assign d (find d x.variable) x.value) l

-- the dictionary is never too full: at most 32 items, and at most the weight of the program
pub record Room (program : Program) (d : Dictionary) : Type 0 where
  pub array : length d.items ≡ 32
  pub small : d.length ≤ 32
  pub few : d.length ≤ weight program

-- the simulation from the words `ws` to the ending `R`; P holds of each item, whatever its value
module _ (n : ℕ) (program : Program) (inputs : Words) (ws : List ℕ) (R : Ending) (P : Item → Type 0) where
  -- the variables that the instruction at the counter touches, on these words
  abbrev pub path : Simulation → List ℕ → List ℕ
  path s mem = touched n (word_at mem) (next_effect n program inputs s)

  -- under way, with no mark: on words that agree with the dictionary, else with `ws`, the rest of the run ends as R.
  -- Each item came with an instruction before the counter, or with the one at the counter.
  pub record Core (s : Simulation) (d : Dictionary) : Type 0 where
    pub booked : AllIn P (noted d)
    pub keyed : Keyed (noted d)
    pub room : Room program d
    pub mem : List ℕ
    pub size : length mem ≡ n
    pub agree : (v : ℕ) → v < n → get_or mem v 0 ≡ value_in (noted d) v (get_or ws v 0)
    pub unmarked : s.yields.fault ≡ false
    pub rest : committed ws (run_from n program inputs 32 s mem) ≡ R
    pub passed : d.length ≤ weight_before program s.counter + reached (noted d) (path s mem)

  -- ended: it yields what R does, and the words of R agree with the dictionary, else with `ws`
  pub record Finished (s : Simulation) (d : Dictionary) : Type 0 where
    pub booked : AllIn P (noted d)
    pub keyed : Keyed (noted d)
    pub room : Room program d
    pub yields : s.yields ≡ R.yields
    pub agree : (v : ℕ) → v < n → get_or R.words v 0 ≡ value_in (noted d) v (get_or ws v 0)

  -- ended as a fault: it yields what R does, and R has the words `ws`
  pub record Faulty (s : Simulation) (d : Dictionary) : Type 0 where
    pub keyed : Keyed (noted d)
    pub room : Room program d
    pub ends : ending s ws ≡ R

  -- the instruction at the counter touches v, the first that is not noted; there is room for it
  pub record Needing (v : ℕ) (s : Simulation) (d : Dictionary) : Type 0 where
    pub core : Core s d
    pub inside : v < n
    pub next : Lacking (noted d) (path s core.mem) v
    pub spare : d.length < 32
    pub fewer : d.length < weight program

  pub needing_absent : {v : ℕ} {s : Simulation} {d : Dictionary} → Needing v s d → has_in (noted d) v ≡ false
  needing_absent {v} {s} {d} q = lacking_absent (noted d) (path s q.core.mem) v q.next

  abbrev pub PausedAt : Pause → Simulation → Dictionary → Type 0
  PausedAt Ended s d = Finished s d
  PausedAt Faulted s d = Faulty s d
  PausedAt (Lacks v) s d = Needing v s d

  abbrev pub Paused : Simulated → Type 0
  Paused x = PausedAt x.pause x.simulation x.dictionary

  -- line H1
  pub starts : length ws ≡ n → sequential n program inputs ws ≡ R → Core started empty
  unfolding sequential value_in
  starts h e = record {
    booked = tt;
    keyed = tt;
    room = record { array = length-replicate 32 no_item; small = omega arith; few = omega arith };
    mem = ws;
    size = h;
    agree = λ v l. refl;
    unmarked = refl;
    rest = e;
    passed = omega arith;
  }

  -- lines H21 to H25: the lacking variable noted, with its value before the operation
  pub noting :
      (v : ℕ) (s : Simulation) (d : Dictionary) (e : Item) →
      e.variable ≡ v → e.value ≡ get_or ws v 0 → P e → Needing v s d → Core s (insert d e)
  noting v s d e ev ex pe q = record {
    booked = rw list (all_snoc P (noted d) e q.core.booked pe);
    keyed = rw list (keyed_snoc (noted d) e q.core.keyed absent);
    room = record {
      array = insert_items d e ∙ q.core.room.array;
      small = rw longer q.spare;
      few = rw longer q.fewer;
    };
    mem = q.core.mem;
    size = q.core.size;
    agree = λ u l. q.core.agree u l ∙ rw list (go u (ℕ_discrete e.variable u));
    unmarked = q.core.unmarked;
    rest = q.core.rest;
    passed = rw (list, longer)
        (omega (arith, q.core.passed, lacking_noted (noted d) e (path s q.core.mem) v ev q.next));
  }
    where
      list : noted (insert d e) ≡ noted d ++ (e ∷ [])
      list = noted_insert d e q.spare q.core.room.array

      longer : (insert d e).length ≡ suc d.length
      longer = insert_length d e q.spare

      absent : has_in (noted d) e.variable ≡ false
      absent = rw ev (lacking_absent (noted d) (path s q.core.mem) v q.next)

      at_it :
          value_in (noted d) e.variable (get_or ws e.variable 0)
          ≡ value_in (noted d ++ (e ∷ [])) e.variable (get_or ws e.variable 0)
      at_it = value_none (noted d) e.variable _ absent ∙ (rw ev (sym ex) ∙ sym (value_snoc_same (noted d) e _ absent))

      go :
          (u : ℕ) →
          Dec (e.variable ≡ u) → value_in (noted d) u (get_or ws u 0) ≡ value_in (noted d ++ (e ∷ [])) u (get_or ws u 0)
      go u (yes z) = rw (← z) at_it
      go u (no ne) = sym (value_snoc_other (noted d) e u (get_or ws u 0) ne)

  module _ (short : Short n program) (blind : (e : Item) (x : ℕ) → P e → P (with_value e x)) where
    -- the words and the dictionary, whatever comes next
    record Held (d : Dictionary) (mem : List ℕ) : Type 0 where
      booked : AllIn P (noted d)
      keyed : Keyed (noted d)
      array : length d.items ≡ 32
      size : length mem ≡ n
      agree : (v : ℕ) → v < n → get_or mem v 0 ≡ value_in (noted d) v (get_or ws v 0)

    -- line H28: a variable that is noted takes a value
    held_store :
        (d : Dictionary) (mem : List ℕ) (v x : ℕ) →
        has_in (noted d) v ≡ true → v < n → Held d mem → Held (assign d (find d v) x) (set mem v x)
    held_store d mem v x t h q = record {
      booked = rw list (all_put P (noted d) v x (λ y. blind y x) q.booked);
      keyed = rw list (keyed_put (noted d) v x q.keyed);
      array = assign_items d (find d v) x ∙ q.array;
      size = length-set mem v x ∙ q.size;
      agree = λ u l. rw list
          (on_set (λ y. y ≡ value_in (put_in (noted d) v x) u (get_or ws u 0)) mem v u x 0
          (rw q.size h)
          (λ z. rw z (sym (value_put_same (noted d) v x (get_or ws v 0) t)))
          (λ ne. q.agree u l ∙ sym (value_put_other (noted d) v x u (get_or ws u 0) ne)));
    }
      where
        list : noted (assign d (find d v) x) ≡ put_in (noted d) v x
        list = noted_assign d v x (has_position (noted d) v ∙ t)

    abbrev Storable : Dictionary → ℕ → Type 0
    Storable d v = (has_in (noted d) v ≡ true) × (v < n)

    still_storable :
        (d : Dictionary) (v x : ℕ) → has_in (noted d) v ≡ true → (l : List Store) →
        EachStore (Storable d) l → EachStore (Storable (assign d (find d v) x)) l
    still_storable d v x t [] q = tt
    still_storable d v x t (y ∷ l) q = (
      (rw (noted_assign d v x (has_position (noted d) v ∙ t)) (has_put (noted d) v x y.variable ∙ q.0.0), q.0.1),
      still_storable d v x t l q.1,
    )

    held_stores :
        (d : Dictionary) (mem : List ℕ) (l : List Store) → EachStore (Storable d) l → Held d mem → Held (with_notes d l) (with_stores mem l)
    held_stores d mem [] s q = q
    held_stores d mem (x ∷ l) s q =
        held_stores (assign d (find d x.variable) x.value) (set mem x.variable x.value) l
        (still_storable d x.variable x.value s.0.0 l s.1) (held_store d mem x.variable x.value s.0.0 s.0.1 q)

    -- the run on the words, one instruction on
    next_run :
        (s : Simulation) (d : Dictionary) (q : Core s d) →
        committed ws (on_executed (next_executed n program inputs s q.mem) (ending s q.mem) (ending (faulted s) q.mem)
        (λ t l. run_from n program inputs 32 t (with_stores q.mem l))) ≡ R
    next_run s d q = ap (committed ws) (sym (run_step n program inputs short 32 s q.mem (omega arith))) ∙ q.rest

    finish : (s : Simulation) (d : Dictionary) (q : Core s d) → next_executed n program inputs s q.mem ≡ Executed.Ends → Finished s d
    finish s d q e =
        let y : committed ws (ending s q.mem) ≡ R = rw e at (next_run s d q) in
        let z : ending s q.mem ≡ R =
        ap (λ (l : List ℕ). ending s l) (sym (cond_false s.yields.fault ws q.mem q.unmarked)) ∙ y in
        record {
          booked = q.booked;
          keyed = q.keyed;
          room = q.room;
          yields = ap (λ (r : Ending). r.yields) z;
          agree = λ v l. ap (λ (r : Ending). get_or r.words v 0) (sym z) ∙ q.agree v l;
        }

    faults_so : (s : Simulation) (d : Dictionary) (q : Core s d) → next_executed n program inputs s q.mem ≡ Executed.Faults → Faulty (faulted s) d
    unfolding faulted
    faults_so s d q e = record { keyed = q.keyed; room = q.room; ends = rw e at (next_run s d q) }

    weighs : (k : ℕ) → weight_of (fetch program k) ≤ weight program
    weighs k =
        ⊎_elim
        (λ t. omega (arith, weight_suc program k, weight_later program (suc k) 32 (ltb-true k 32 t)))
        (λ f. rw (fetch_end n program k short (omega (arith, ltb-false k 32 f))) (omega arith))
        (true_or_false (ltb k 32))

    -- one instruction, on words and on a dictionary that agree
    module _ (s : Simulation) (d : Dictionary) (q : Core s d) where
      abbrev effect : Effect
      effect = next_effect n program inputs s

      touching : (look : ℕ → ℕ) → Touching n (weight_of (fetch program s.counter)) (touched n look effect)
      touching look =
          let same = weight_shortened (program.length - suc s.counter) (fetch program s.counter) in
          subst (λ (w : ℕ). Touching n w (touched n look effect)) same
          (touches n look inputs s.registers (next_instruction program s.counter) (λ h. short.some (omega (arith, same, weighs s.counter))))

      -- what is noted has the value that the words have
      same_noted : (v : ℕ) → v < n → has_in (noted d) v ≡ true → note_of d v ≡ word_at q.mem v
      same_noted v l t = found d v (get_or ws v 0) (has_position (noted d) v ∙ t) ∙ sym (q.agree v l)

      -- the first variable that is not noted, by the dictionary and by the words
      lacking_same : (e : Effect) (v : ℕ) → 0 < n → Lacking (noted d) (touched n (note_of d) e) v → Lacking (noted d) (touched n (word_at q.mem) e) v
      lacking_same Effect.Stop v z r = r
      lacking_same Effect.Fault v z r = r
      lacking_same (Effect.Set a x) v z r = r
      lacking_same (Effect.Load a u) v z r = r
      lacking_same (Effect.Store u x) v z r = r
      lacking_same (Effect.Output a x) v z r = r
      lacking_same (Effect.Skip c) v z r = r
      lacking_same (Effect.Allocate a) v z (inl r) = inl r
      lacking_same (Effect.Allocate a) v z (inr r) =
          inr (r.0, subst (λ c. Lacking (noted d) (cond (is_cell n c) (c ∷ []) []) v) (same_noted 0 z r.0) r.1)
      lacking_same (Effect.Free c) v z r = r

      -- line H20: an instruction that touches a variable not noted waits for it
      lacking : (v : ℕ) → Lacking (noted d) (touched n (note_of d) effect) v → Needing v s d
      lacking v r =
          let inside = lacking_inside (λ u. u < n) (noted d) (touched n (note_of d) effect) v (touching (note_of d)).inside r in
          let next = lacking_same effect v (omega arith) r in
          let fewer = lacking_fewer (noted d) (path s q.mem) v next in
          let most = (touching (word_at q.mem)).most in
          let after = weight_suc program s.counter in
          let all = weight_later program (suc s.counter) 32 (below fewer) in
          record {
            core = q;
            inside = inside;
            next = next;
            spare = omega (arith, q.passed, short.light);
            fewer = omega (arith, q.passed);
          }
        where
          below : reached (noted d) (path s q.mem) < length (path s q.mem) → s.counter < 32
          below k =
              ⊎_elim (ltb-true _ _)
              (λ f. let none : weight_of (fetch program s.counter) ≡ 0 =
              ap weight_of (fetch_end n program s.counter short (omega (arith, ltb-false s.counter 32 f))) in
              absurd (omega (arith, (touching (word_at q.mem)).most)))
              (true_or_false (ltb s.counter 32))

      -- all are noted: the outcome is that on the words
      same : Each (Noted (noted d)) (touched n (note_of d) effect) → Each (Same n (note_of d) (word_at q.mem)) (touched n (note_of d) effect)
      same all =
          each_map (λ u. (has_in (noted d) u ≡ true) × (u < n)) (Same n (note_of d) (word_at q.mem)) (touched n (note_of d) effect)
          (λ u p. same_noted u p.1 p.0)
          (each_both (Noted (noted d)) (λ u. u < n) (touched n (note_of d) effect) all (touching (note_of d)).inside)

      executed_is :
          Each (Noted (noted d)) (touched n (note_of d) effect) →
          execute n (note_of d) s effect ≡ next_executed n program inputs s q.mem
      executed_is all = same_executed n (note_of d) (word_at q.mem) s effect (same all)

      -- lines H26 to H30: it is executed
      goes_on :
          (t : Simulation) (l : List Store) → Each (Noted (noted d)) (touched n (note_of d) effect) →
          execute n (note_of d) s effect ≡ Executed.Goes t l → Core t (with_notes d l)
      goes_on t l all e = record {
        booked = held.booked;
        keyed = held.keyed;
        room = record { array = held.array; small = rw size q.room.small; few = rw size q.room.few };
        mem = with_stores q.mem l;
        size = held.size;
        agree = held.agree;
        unmarked = subst (MarkKept s) e (execute_mark n (note_of d) s effect) ∙ q.unmarked;
        rest = rw (sym (executed_is all) ∙ e) at (next_run s d q);
        passed =
            let most = (touching (word_at q.mem)).most in
            let after = weight_suc program s.counter in
            let later = weight_later program (suc s.counter) t.counter (advances n program inputs short (note_of d) s t l e).1 in
            rw size (omega (arith, q.passed, reached_most (noted d) (path s q.mem)));
      }
        where
          storable : EachStore (Storable d) l
          storable =
              subst (Storing (Storable d)) e
              (execute_stores (Storable d) n (note_of d) s effect
              (each_both (Noted (noted d)) (λ u. u < n) (touched n (note_of d) effect) all (touching (note_of d)).inside))

          held : Held (with_notes d l) (with_stores q.mem l)
          held =
              held_stores d q.mem l storable
              (record { booked = q.booked; keyed = q.keyed; array = q.room.array; size = q.size; agree = q.agree })

          size : (with_notes d l).length ≡ d.length
          size = notes_length d l

    simulates_from :
        (fuel : ℕ) (s : Simulation) (d : Dictionary) →
        32 ≤ fuel + s.counter → Core s d → Paused (simulate_from n program inputs fuel s d)
    unfolding simulate_from
    simulates_from zero s d h q = finish s d q (rw (past_end n program inputs short s (omega arith)) refl)
    simulates_from (suc fuel) s d h q =
        on_lacking_lem Paused d (touched n (note_of d) (next_effect n program inputs s))
        (λ v r. lacking s d q v r)
        (λ all. on_executed_lem Paused (execute n (note_of d) s (next_effect n program inputs s))
        (λ e. finish s d q (sym (executed_is s d q all) ∙ e))
        (λ e. faults_so s d q (sym (executed_is s d q all) ∙ e))
        (λ t l e. simulates_from fuel t (with_notes d l) (omega (arith, (advances n program inputs short (note_of d) s t l e).1))
        (goes_on s d q t l all e)))

    pub simulates : (s : Simulation) (d : Dictionary) → Core s d → Paused (simulate n program inputs s d)
    unfolding simulate
    simulates s d q = simulates_from 32 s d (omega arith) q

-- what every instruction of a simulation keeps: it stores only to what is noted
module _ (n : ℕ) (program : Program) (inputs : Words) (Q : Simulation → Dictionary → Type 0)
    (faults : (s : Simulation) (d : Dictionary) → Q s d → Q (faulted s) d)
    (goes : (s : Simulation) (d : Dictionary) (t : Simulation) (l : List Store) → EachStore (Noted (noted d)) l →
    execute n (note_of d) s (next_effect n program inputs s) ≡ Executed.Goes t l → Q s d → Q t (with_notes d l)) where
  abbrev KeptIn : Simulated → Type 0
  KeptIn x = Q x.simulation x.dictionary

  kept_from : (fuel : ℕ) (s : Simulation) (d : Dictionary) → Q s d → KeptIn (simulate_from n program inputs fuel s d)
  unfolding simulate_from
  kept_from zero s d q = q
  kept_from (suc fuel) s d q =
      let effect = next_effect n program inputs s in
      on_lacking_lem KeptIn d (touched n (note_of d) effect) (λ _ _. q)
      (λ all. on_executed_lem KeptIn (execute n (note_of d) s effect) (λ _. q) (λ _. faults s d q)
      (λ t l e. kept_from fuel t (with_notes d l)
      (goes s d t l (subst (Storing (Noted (noted d))) e (execute_stores (Noted (noted d)) n (note_of d) s effect all)) e q)))

  pub kept_simulated : (s : Simulation) (d : Dictionary) → Q s d → KeptIn (simulate n program inputs s d)
  unfolding simulate
  kept_simulated s d q = kept_from 32 s d q

-- where nothing is noted nothing is stored
no_stores : (l : List Store) → EachStore (Noted []) l → l ≡ []
unfolding has_in
no_stores [] q = refl
no_stores (x ∷ l) q = absurd (false≢true q.0)

-- a simulation that has noted nothing leaves its dictionary empty
pub simulate_empty :
    (n : ℕ) (program : Program) (inputs : Words) → (simulate n program inputs started empty).dictionary ≡ empty
simulate_empty n program inputs =
    kept_simulated n program inputs (λ s d. d ≡ empty) (λ s d h. h)
    (λ s d t l stores _ h. rw (h, no_stores l (subst (λ (x : Dictionary). EachStore (Noted (noted x)) l) h stores))) started empty refl

-- a simulation notes nothing by itself
pub simulate_length :
    (n : ℕ) (program : Program) (inputs : Words) (s : Simulation) (d : Dictionary) →
    (simulate n program inputs s d).dictionary.length ≡ d.length
simulate_length n program inputs s d =
    kept_simulated n program inputs (λ _ x. x.length ≡ d.length) (λ _ _ h. h) (λ _ x _ l _ _ h. notes_length x l ∙ h) s d refl
