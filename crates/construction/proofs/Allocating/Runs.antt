-- What a run of the bench does to its words, action by action (document 02, order 9): every action is one that the codes can make there, and
-- together they leave the words of the run.
use Prim.Native.Nat.{ℕ, zero, suc}
use mathlib.Core.Path.{◌≡◌, refl, sym, subst, ap, ◌∙◌}
use mathlib.Core.Bool.{Bool, true, false, cond}
use mathlib.Core.List.{List, [], ◌∷◌, ◌++◌}
use lib.Dec.{eqb, ltb}
use lib.ListN.{length, length-set}
use borrow.Author.Tests.{eqb-true}
use Rattle.construction.specs.Types.{Words, Instruction, Program, Effect, Simulation}
use Rattle.construction.specs.Instructions.{word, is_cell, load, store, free, effect_of, next_instruction, next_effect, faulted, with_register, started}
use Rattle.construction.specs.Effects.{Store, put, Executed, allocated, execute, on_executed}
use Rattle.construction.specs.Sequential.{ending, word_at, with_stores, next_executed, run_from, sequential}
use Rattle.construction.specs.Allocation.{Action, Performed, acted_on, words_after, actions_of, performed_by, performed_from, performed_in, OnlyByCodes}
use Rattle.construction.specs.Allocation.{OnlyFromHands}
use Rattle.construction.proofs.Basics.{on_test}
use Rattle.construction.proofs.Simulating.Effects.{on_executed_lem}
use Rattle.construction.proofs.Simulating.Sequential.{stores_length}
use Rattle.construction.proofs.Allocating.Hands.{AllPossible}

-- actions after actions
pub words_append : (words : List ℕ) (xs ys : List Performed) → words_after words (xs ++ ys) ≡ words_after (words_after words ys) xs
unfolding words_after
words_append words [] ys = refl
words_append words (x ∷ xs) ys = ap (λ (l : List ℕ). acted_on l x.action) (words_append words xs ys)

pub possible_append :
    (words : List ℕ) (xs ys : List Performed) → AllPossible (words_after words ys) xs → AllPossible words ys → AllPossible words (xs ++ ys)
possible_append words [] ys p q = q
possible_append words (x ∷ xs) ys p q =
    (rw (words_append words xs ys) p.0, possible_append words xs ys p.1 q)

-- the earlier ones alone
pub possible_earlier : (words : List ℕ) (xs ys : List Performed) → AllPossible words (xs ++ ys) → AllPossible words ys
possible_earlier words [] ys q = q
possible_earlier words (x ∷ xs) ys q = possible_earlier words xs ys q.1

pub codes_earlier : (words : List ℕ) (xs ys : List Performed) → OnlyByCodes words (xs ++ ys) → OnlyByCodes words ys
codes_earlier words [] ys q = q
codes_earlier words (x ∷ xs) ys q = codes_earlier words xs ys q.1

pub hands_earlier : (xs ys : List Performed) → OnlyFromHands (xs ++ ys) → OnlyFromHands ys
hands_earlier [] ys q = q
hands_earlier (x ∷ xs) ys q = hands_earlier xs ys q.1

after_length_lem : (words : List ℕ) (a : Action) → length (acted_on words a) ≡ length words
after_length_lem words (Action.Took c) = rw (length-set, length-set)
after_length_lem words Action.TookNone = refl
after_length_lem words (Action.Gave c) = rw (length-set, length-set)
after_length_lem words (Action.Loaded v) = refl
after_length_lem words (Action.Stored v x) = rw length-set

pub words_length : (words : List ℕ) (xs : List Performed) → length (words_after words xs) ≡ length words
unfolding words_after
words_length words [] = refl
words_length words (x ∷ xs) = after_length_lem (words_after words xs) x.action ∙ words_length words xs

-- an effect stores what its action does to the words
abbrev Stores : ℕ → List ℕ → List Action → Executed → Type 0
Stores i words l Executed.Ends = Unit {0}
Stores i words l Executed.Faults = Unit {0}
Stores i words l (Executed.Goes t m) = words_after words (performed_by i l) ≡ with_stores words m

-- code 13, by its tests
allocates : (i : ℕ) (words : List ℕ) (s : Simulation) (a c : ℕ) (cell none : Bool) →
    Stores i words (cond cell (Action.Took c ∷ []) (cond none (Action.TookNone ∷ []) []))
    (cond cell (Executed.Goes (with_register s a c) (put 0 (word_at words c) ∷ put c 0 ∷ []))
    (cond none (Executed.Goes (with_register s a 0) []) Executed.Faults))
unfolding words_after
allocates i words s a c true none = refl
allocates i words s a c false true = refl
allocates i words s a c false false = tt

stores_are : (n i : ℕ) (words : List ℕ) (s : Simulation) (e : Effect) → Stores i words (actions_of n (word_at words) e) (execute n (word_at words) s e)
unfolding allocated words_after
stores_are n i words s Effect.Stop = tt
stores_are n i words s Effect.Fault = tt
stores_are n i words s (Effect.Set a x) = refl
stores_are n i words s (Effect.Load a v) = refl
stores_are n i words s (Effect.Store v x) = refl
stores_are n i words s (Effect.Output a x) = refl
stores_are n i words s (Effect.Skip c) = refl
stores_are n i words s (Effect.Allocate a) =
    allocates i words s a (word_at words 0) (is_cell n (word_at words 0)) (eqb (word_at words 0) 0)
stores_are n i words s (Effect.Free c) = refl

-- a cell that is given back is one
abbrev FreesCell : ℕ → Effect → Type 0
FreesCell n Effect.Stop = Unit {0}
FreesCell n Effect.Fault = Unit {0}
FreesCell n (Effect.Set a x) = Unit {0}
FreesCell n (Effect.Load a v) = Unit {0}
FreesCell n (Effect.Store v x) = Unit {0}
FreesCell n (Effect.Output a x) = Unit {0}
FreesCell n (Effect.Skip c) = Unit {0}
FreesCell n (Effect.Allocate a) = Unit {0}
FreesCell n (Effect.Free c) = is_cell n c ≡ true

frees_cell : (n : ℕ) (inputs r : Words) (i : Instruction) → FreesCell n (effect_of n inputs r i)
unfolding effect_of load store free
frees_cell n inputs r Instruction.Stop = tt
frees_cell n inputs r (Instruction.Input a b) = tt
frees_cell n inputs r (Instruction.Constant a b) = tt
frees_cell n inputs r (Instruction.Load a v) = on_test (FreesCell n) (ltb v n) (λ _. tt) (λ _. tt)
frees_cell n inputs r (Instruction.Store v b) = on_test (FreesCell n) (ltb v n) (λ _. tt) (λ _. tt)
frees_cell n inputs r (Instruction.LoadAt a b) = on_test (FreesCell n) (ltb (word r b) n) (λ _. tt) (λ _. tt)
frees_cell n inputs r (Instruction.StoreAt a b) = on_test (FreesCell n) (ltb (word r a) n) (λ _. tt) (λ _. tt)
frees_cell n inputs r (Instruction.Add a b) = tt
frees_cell n inputs r (Instruction.Subtract a b) = tt
frees_cell n inputs r (Instruction.SkipEqual a b c) = tt
frees_cell n inputs r (Instruction.SkipLess a b c) = tt
frees_cell n inputs r (Instruction.Output a b) = tt
frees_cell n inputs r (Instruction.Allocate a) = tt
frees_cell n inputs r (Instruction.Free a) = on_test (FreesCell n) (is_cell n (word r a)) (λ t. t) (λ _. tt)

-- an action of an effect is one that the codes can make
possible_effect :
    (i : ℕ) (words : List ℕ) (e : Effect) → FreesCell (length words) e →
    AllPossible words (performed_by i (actions_of (length words) (word_at words) e))
unfolding words_after
possible_effect i words Effect.Stop q = tt
possible_effect i words Effect.Fault q = tt
possible_effect i words (Effect.Set a x) q = tt
possible_effect i words (Effect.Load a v) q = (tt, tt)
possible_effect i words (Effect.Store v x) q = (tt, tt)
possible_effect i words (Effect.Output a x) q = tt
possible_effect i words (Effect.Skip c) q = tt
possible_effect i words (Effect.Allocate a) q =
    on_test (λ (l : List Action). AllPossible words (performed_by i l)) (is_cell (length words) (word_at words 0))
    (λ t. ((refl, t), tt))
    (λ _. on_test (λ (l : List Action). AllPossible words (performed_by i l)) (eqb (word_at words 0) 0)
    (λ t. (eqb-true _ _ t, tt)) (λ _. tt))
possible_effect i words (Effect.Free c) q = (q, tt)

module _ (n : ℕ) (program : Program) (inputs : Words) (i : ℕ) where
  abbrev actions : Simulation → List ℕ → List Performed
  actions s words = performed_by i (actions_of n (word_at words) (next_effect n program inputs s))

  acted :
      (s t : Simulation) (l : List Store) (words : List ℕ) → next_executed n program inputs s words ≡ Executed.Goes t l →
      words_after words (actions s words) ≡ with_stores words l
  acted s t l words e =
      subst (Stores i words (actions_of n (word_at words) (next_effect n program inputs s))) e (stores_are n i words s (next_effect n program inputs s))

  -- one run, from any state on: what its actions leave, ..
  run_words :
      (fuel : ℕ) (s : Simulation) (words : List ℕ) →
      words_after words (performed_from n program inputs i fuel s words) ≡ (run_from n program inputs fuel s words).words
  unfolding performed_from run_from words_after
  run_words zero s words = refl
  run_words (suc fuel) s words = by (λ t l. run_words fuel t (with_stores words l)) (next_executed n program inputs s words) refl
    where
      by :
          ((t : Simulation) (l : List Store) →
          words_after (with_stores words l) (performed_from n program inputs i fuel t (with_stores words l))
          ≡ (run_from n program inputs fuel t (with_stores words l)).words) →
          (o : Executed) → next_executed n program inputs s words ≡ o →
          words_after words (on_executed o [] [] (λ t l. performed_from n program inputs i fuel t (with_stores words l) ++ actions s words))
          ≡ (on_executed o (ending s words) (ending (faulted s) words) (λ t l. run_from n program inputs fuel t (with_stores words l))).words
      by go Executed.Ends e = refl
      by go Executed.Faults e = refl
      by go (Executed.Goes t l) e =
          words_append words (performed_from n program inputs i fuel t (with_stores words l)) (actions s words)
          ∙ rw (acted s t l words e) (go t l)

  -- .. and that the codes can make each
  run_possible :
      (fuel : ℕ) (s : Simulation) (words : List ℕ) → n ≡ length words → AllPossible words (performed_from n program inputs i fuel s words)
  unfolding performed_from
  run_possible zero s words h = tt
  run_possible (suc fuel) s words h =
      on_executed_lem (AllPossible words) (next_executed n program inputs s words) (λ _. tt) (λ _. tt)
      (λ t l e. possible_append words (performed_from n program inputs i fuel t (with_stores words l)) (actions s words)
      (rw (acted s t l words e) (run_possible fuel t (with_stores words l) (h ∙ sym (stores_length words l))))
      (now s words h))
    where
      now : (s : Simulation) (words : List ℕ) → n ≡ length words → AllPossible words (actions s words)
      now s words h =
          subst (λ (k : ℕ). AllPossible words (performed_by i (actions_of k (word_at words) (next_effect n program inputs s)))) (sym h)
          (possible_effect i words (next_effect n program inputs s)
          (subst (λ (k : ℕ). FreesCell k (next_effect n program inputs s)) h (frees_cell n inputs s.registers (next_instruction program s.counter))))

  -- a whole run; one that ends as a fault does nothing
  pub in_words : (words : List ℕ) → words_after words (performed_in n program inputs i words) ≡ (sequential n program inputs words).words
  unfolding sequential words_after
  in_words words = by (sequential n program inputs words).yields.fault refl
    where
      by :
          (b : Bool) → (sequential n program inputs words).yields.fault ≡ b →
          words_after words (cond b [] (performed_from n program inputs i 32 started words)) ≡ cond b words (run_from n program inputs 32 started words).words
      by true e = refl
      by false e = run_words 32 started words

  pub in_possible : (words : List ℕ) → n ≡ length words → AllPossible words (performed_in n program inputs i words)
  in_possible words h =
      on_test (AllPossible words) (sequential n program inputs words).yields.fault (λ _. tt) (λ _. run_possible 32 started words h)
