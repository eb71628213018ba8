-- Effects (specs/Effects): outcomes by cases; an outcome moves the counter forward and stores only to variables that the effect touched; where
-- two readings of the variables agree on those, the effect has the same outcome.
use Prim.Native.Nat.{ℕ, ◌≤◌, ◌<◌}
use mathlib.Core.Path.{◌≡◌, refl, subst}
use mathlib.Core.Bool.{Bool, true, false, cond, not}
use mathlib.Core.Logic.{⊎_elim}
use mathlib.Core.List.{List, [], ◌∷◌}
use native.Mathlib.Omega.{arith}
use lib.Dec.{eqb, ltb}
use lib.ListN.{length}
use borrow.Author.Tests.{ltb-true}
use Rattle.construction.specs.Types.{Words, Instruction, Effect, Simulation}
use Rattle.construction.specs.Instructions.{word, load, store, free, is_cell, effect_of, forward, with_register, with_output, skipped}
use Rattle.construction.specs.Effects.{Store, Executed, touched, allocated, execute, on_executed}
use Rattle.construction.specs.Weight.{weight_of}
use Rattle.construction.proofs.Basics.{on_test, and_true, true_or_false}

-- by cases on an execute, what it is in hand
pub on_executed_lem {ℓ κ} :
    {A : Type ℓ} (P : A → Type κ) (o : Executed) {ends faults : A} {goes : Simulation → List Store → A} →
    (o ≡ Executed.Ends → P ends) → (o ≡ Executed.Faults → P faults) → ((t : Simulation) (l : List Store) → o ≡ Executed.Goes t l → P (goes t l)) →
    P (on_executed o ends faults goes)
on_executed_lem P Executed.Ends p f q = p refl
on_executed_lem P Executed.Faults p f q = f refl
on_executed_lem P (Executed.Goes t l) p f q = q t l refl

-- a counter below 32 moves forward
abbrev pub Forward : ℕ → Executed → Type 0
Forward k Executed.Ends = Unit {0}
Forward k Executed.Faults = Unit {0}
Forward k (Executed.Goes t l) = k < t.counter

forward_more : (k c : ℕ) → k < 32 → k < forward k c
unfolding forward
forward_more k c h = omega arith

pub execute_forward :
    (n : ℕ) (look : ℕ → ℕ) (s : Simulation) (e : Effect) → s.counter < 32 → Forward s.counter (execute n look s e)
unfolding allocated with_register with_output skipped
execute_forward n look s Effect.Stop h = tt
execute_forward n look s Effect.Fault h = tt
execute_forward n look s (Effect.Set a x) h = forward_more s.counter 0 h
execute_forward n look s (Effect.Load a v) h = forward_more s.counter 0 h
execute_forward n look s (Effect.Store v x) h = forward_more s.counter 0 h
execute_forward n look s (Effect.Output a x) h = forward_more s.counter 0 h
execute_forward n look s (Effect.Skip c) h = forward_more s.counter c h
execute_forward n look s (Effect.Allocate a) h =
    on_test (Forward s.counter) (is_cell n (look 0)) (λ _. forward_more s.counter 0 h)
    (λ _. on_test (Forward s.counter) (eqb (look 0) 0) (λ _. forward_more s.counter 0 h) (λ _. tt))
execute_forward n look s (Effect.Free c) h = forward_more s.counter 0 h

-- and the mark of a fault stays as it was
abbrev pub MarkKept : Simulation → Executed → Type 0
MarkKept s Executed.Ends = Unit {0}
MarkKept s Executed.Faults = Unit {0}
MarkKept s (Executed.Goes t l) = t.yields.fault ≡ s.yields.fault

pub execute_mark : (n : ℕ) (look : ℕ → ℕ) (s : Simulation) (e : Effect) → MarkKept s (execute n look s e)
unfolding allocated with_register with_output skipped
execute_mark n look s Effect.Stop = tt
execute_mark n look s Effect.Fault = tt
execute_mark n look s (Effect.Set a x) = refl
execute_mark n look s (Effect.Load a v) = refl
execute_mark n look s (Effect.Store v x) = refl
execute_mark n look s (Effect.Output a x) = refl
execute_mark n look s (Effect.Skip c) = refl
execute_mark n look s (Effect.Allocate a) =
    on_test (MarkKept s) (is_cell n (look 0)) (λ _. refl) (λ _. on_test (MarkKept s) (eqb (look 0) 0) (λ _. refl) (λ _. tt))
execute_mark n look s (Effect.Free c) = refl

-- P holds of each variable
abbrev pub Each : (ℕ → Type 0) → List ℕ → Type 0
Each P [] = Unit {0}
Each P (v ∷ l) = P v × Each P l

pub each_map : (P Q : ℕ → Type 0) (l : List ℕ) → ((v : ℕ) → P v → Q v) → Each P l → Each Q l
each_map P Q [] f q = tt
each_map P Q (v ∷ l) f q = (f v q.0, each_map P Q l f q.1)

pub each_both : (P Q : ℕ → Type 0) (l : List ℕ) → Each P l → Each Q l → Each (λ v. P v × Q v) l
each_both P Q [] p q = tt
each_both P Q (v ∷ l) p q = ((p.0, q.0), each_both P Q l p.1 q.1)

-- P holds of each variable that an outcome stores to
abbrev pub EachStore : (ℕ → Type 0) → List Store → Type 0
EachStore P [] = Unit {0}
EachStore P (x ∷ l) = P x.variable × EachStore P l

abbrev pub Storing : (ℕ → Type 0) → Executed → Type 0
Storing P Executed.Ends = Unit {0}
Storing P Executed.Faults = Unit {0}
Storing P (Executed.Goes t l) = EachStore P l

-- what an effect stores to it has touched
pub execute_stores :
    (P : ℕ → Type 0) (n : ℕ) (look : ℕ → ℕ) (s : Simulation) (e : Effect) → Each P (touched n look e) → Storing P (execute n look s e)
unfolding allocated
execute_stores P n look s Effect.Stop q = tt
execute_stores P n look s Effect.Fault q = tt
execute_stores P n look s (Effect.Set a x) q = tt
execute_stores P n look s (Effect.Load a v) q = tt
execute_stores P n look s (Effect.Store v x) q = (q.0, tt)
execute_stores P n look s (Effect.Output a x) q = tt
execute_stores P n look s (Effect.Skip c) q = tt
execute_stores P n look s (Effect.Allocate a) q =
    on_test (Storing P) (is_cell n (look 0))
    (λ t. (q.0, subst (λ (b : Bool). Each P (cond b (look 0 ∷ []) [])) t q.1))
    (λ _. on_test (Storing P) (eqb (look 0) 0) (λ _. tt) (λ _. tt))
execute_stores P n look s (Effect.Free c) q = (q.1.0, (q.0, tt))

-- two readings of the variables that agree on all that an effect touches
module _ (n : ℕ) (look other : ℕ → ℕ) where
  abbrev pub Same : ℕ → Type 0
  Same v = look v ≡ other v

  pub same_executed : (s : Simulation) (e : Effect) → Each Same (touched n look e) → execute n look s e ≡ execute n other s e
  unfolding allocated
  same_executed s Effect.Stop q = refl
  same_executed s Effect.Fault q = refl
  same_executed s (Effect.Set a x) q = refl
  same_executed s (Effect.Load a v) q = rw q.0
  same_executed s (Effect.Store v x) q = refl
  same_executed s (Effect.Output a x) q = refl
  same_executed s (Effect.Skip c) q = refl
  same_executed s (Effect.Allocate a) q =
      ⊎_elim
      (λ (t : is_cell n (look 0) ≡ true).
      let cell = subst (λ (b : Bool). Each Same (cond b (look 0 ∷ []) [])) t q.1 in
      rw (← q.0, t, cell.0))
      (λ (f : is_cell n (look 0) ≡ false). rw (← q.0, f))
      (true_or_false (is_cell n (look 0)))
  same_executed s (Effect.Free c) q = rw q.0

-- an effect touches variables that are there, and as many as its instruction weighs
pub record Touching (n w : ℕ) (l : List ℕ) : Type 0 where
  pub inside : Each (λ v. v < n) l
  pub most : length l ≤ w

abbrev Touches : ℕ → (ℕ → ℕ) → ℕ → Effect → Type 0
Touches n look w e = Touching n w (touched n look e)

touches_none : (n w : ℕ) → Touching n w []
touches_none n w = record { inside = tt; most = omega arith }

-- an effect that touches v, if v is there
touches_one : (n : ℕ) (look : ℕ → ℕ) (v : ℕ) (e : Effect) → touched n look e ≡ v ∷ [] → Touches n look 1 (cond (ltb v n) e Effect.Fault)
touches_one n look v e q =
    on_test (Touches n look 1) (ltb v n) (λ t. rw q (record { inside = (ltb-true v n t, tt); most = omega arith })) (λ _. touches_none n 1)

cell_below : (n c : ℕ) → is_cell n c ≡ true → c < n
cell_below n c t = ltb-true c n (and_true (not (eqb c 0)) (ltb c n) t).1

pub touches :
    (n : ℕ) (look : ℕ → ℕ) (inputs r : Words) (i : Instruction) → (0 < weight_of i → 0 < n) →
    Touching n (weight_of i) (touched n look (effect_of n inputs r i))
unfolding effect_of load store free
touches n look inputs r Instruction.Stop z = touches_none n 0
touches n look inputs r (Instruction.Input a b) z = touches_none n 0
touches n look inputs r (Instruction.Constant a b) z = touches_none n 0
touches n look inputs r (Instruction.Load a v) z = touches_one n look v (Effect.Load a v) refl
touches n look inputs r (Instruction.Store v b) z = touches_one n look v (Effect.Store v (word r b)) refl
touches n look inputs r (Instruction.LoadAt a b) z = touches_one n look (word r b) (Effect.Load a (word r b)) refl
touches n look inputs r (Instruction.StoreAt a b) z = touches_one n look (word r a) (Effect.Store (word r a) (word r b)) refl
touches n look inputs r (Instruction.Add a b) z = touches_none n 0
touches n look inputs r (Instruction.Subtract a b) z = touches_none n 0
touches n look inputs r (Instruction.SkipEqual a b c) z = touches_none n 0
touches n look inputs r (Instruction.SkipLess a b c) z = touches_none n 0
touches n look inputs r (Instruction.Output a b) z = touches_none n 0
touches n look inputs r (Instruction.Allocate a) z =
    let first : 0 < n = z (omega arith) in
    on_test (λ (l : List ℕ). Touching n 2 (0 ∷ l)) (is_cell n (look 0))
    (λ t. record { inside = (first, (cell_below n (look 0) t, tt)); most = omega arith })
    (λ _. record { inside = (first, tt); most = omega arith })
touches n look inputs r (Instruction.Free a) z =
    on_test (Touches n look 2) (is_cell n (word r a))
    (λ t. record { inside = (z (omega arith), (cell_below n (word r a) t, tt)); most = omega arith })
    (λ _. touches_none n 2)
