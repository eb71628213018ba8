-- A simulation that stands still for want of a variable wants one that fits a byte, and goes on at a control that does.
use Prim.Native.Nat.{ℕ, zero, suc, ◌<◌, ◌≤◌}
use mathlib.Core.Path.{◌≡◌}
use mathlib.Core.Bool.{true, not}
use mathlib.Core.List.{List, [], ◌∷◌}
use native.Mathlib.Omega.{arith}
use lib.Dec.{eqb, ltb}
use lib.ListN.{length}
use borrow.Author.Tests.{ltb-true}
use Rattle.construction.specs.declared.cells.Words.{Words}
use Rattle.construction.specs.declared.programs.Program.{Program}
use Rattle.construction.specs.declared.programs.Effect.{Effect}
use Rattle.construction.specs.declared.programs.Instruction.{Instruction}
use Rattle.construction.specs.declared.simulations.Simulation.{Simulation}
use Rattle.construction.specs.declared.simulations.Simulated.{Simulated}
use Rattle.construction.specs.declared.simulations.Dictionary.{Dictionary}
use Rattle.construction.specs.declared.accesses.Control.{Control}
use Rattle.construction.specs.declared.simulations.Pause.{Pause}
use Rattle.construction.specs.declared.simulations.Pause.TheVariants.{Ended, Faulted, Lacks}
use Rattle.construction.specs.Instructions.{word, load, store, is_cell, free, effect_of, next_effect, next_instruction}
use Rattle.construction.specs.Effects.{touched, execute}
use Rattle.construction.specs.Dictionary.{has, noted, next_write}
use Rattle.construction.specs.Helping.{note_of, with_notes, on_lacking, simulate_from, simulate}
use Rattle.construction.specs.Machine.{write_from, after_pause}
use Rattle.construction.proofs.Basics.{and_true, on_test}
use Rattle.construction.proofs.Simulating.Effects.{Each, on_executed_lem}

abbrev pub NarrowPause : Pause → Type 0
NarrowPause Ended = Unit {0}
NarrowPause Faulted = Unit {0}
NarrowPause (Lacks v) = v < 256

-- an effect names variables below n
abbrev Below : ℕ → Effect → Type 0
Below n Effect.Stop = Unit {0}
Below n Effect.Fault = Unit {0}
Below n (Effect.Set a x) = Unit {0}
Below n (Effect.Load a v) = v < n
Below n (Effect.Store v x) = v < n
Below n (Effect.Output a x) = Unit {0}
Below n (Effect.Skip c) = Unit {0}
Below n (Effect.Allocate a) = Unit {0}
Below n (Effect.Free c) = c < n

below_cell : (n c : ℕ) → is_cell n c ≡ true → c < n
below_cell n c t = ltb-true c n (and_true (not (eqb c 0)) (ltb c n) t).1

module _ (n : ℕ) (inputs r : Words) where
  effect_below : (e : Instruction) → Below n (effect_of n inputs r e)
  unfolding effect_of load store free
  effect_below Instruction.Stop = tt
  effect_below (Instruction.Input a b) = tt
  effect_below (Instruction.Constant a b) = tt
  effect_below (Instruction.Load a v) = on_test (Below n) (ltb v n) (λ t. ltb-true v n t) (λ _. tt)
  effect_below (Instruction.Store v b) = on_test (Below n) (ltb v n) (λ t. ltb-true v n t) (λ _. tt)
  effect_below (Instruction.LoadAt a b) = on_test (Below n) (ltb (word r b) n) (λ t. ltb-true (word r b) n t) (λ _. tt)
  effect_below (Instruction.StoreAt a b) = on_test (Below n) (ltb (word r a) n) (λ t. ltb-true (word r a) n t) (λ _. tt)
  effect_below (Instruction.Add a b) = tt
  effect_below (Instruction.Subtract a b) = tt
  effect_below (Instruction.SkipEqual a b c) = tt
  effect_below (Instruction.SkipLess a b c) = tt
  effect_below (Instruction.Output a b) = tt
  effect_below (Instruction.Allocate a) = tt
  effect_below (Instruction.Free a) = on_test (Below n) (is_cell n (word r a)) (λ t. below_cell n (word r a) t) (λ _. tt)

touched_narrow : (n : ℕ) → n < 256 → (look : ℕ → ℕ) (e : Effect) → Below n e → Each (λ v. v < 256) (touched n look e)
touched_narrow n p look Effect.Stop q = tt
touched_narrow n p look Effect.Fault q = tt
touched_narrow n p look (Effect.Set a x) q = tt
touched_narrow n p look (Effect.Load a v) q = (omega arith, tt)
touched_narrow n p look (Effect.Store v x) q = (omega arith, tt)
touched_narrow n p look (Effect.Output a x) q = tt
touched_narrow n p look (Effect.Skip c) q = tt
touched_narrow n p look (Effect.Allocate a) q =
    (omega arith, on_test (Each (λ v. v < 256)) (is_cell n (look 0)) (λ t. let z = below_cell n (look 0) t in (omega arith, tt)) (λ _. tt))
touched_narrow n p look (Effect.Free c) q = (omega arith, (omega arith, tt))

on_narrow {ℓ} : {A : Type ℓ} (P : A → Type 0) (d : Dictionary) (l : List ℕ) {lacking : ℕ → A} {all : A} → Each (λ v. v < 256) l →
    ((v : ℕ) → v < 256 → P (lacking v)) → P all → P (on_lacking d l lacking all)
on_narrow P d [] e p q = q
on_narrow P d (v ∷ l) e p q = on_test P (has d v) (λ _. on_narrow P d l e.1 p q) (λ _. p v e.0)

module _ (n : ℕ) (narrow : n < 256) (program : Program) (inputs : Words) where
  pause_from : (fuel : ℕ) (s : Simulation) (d : Dictionary) → NarrowPause (simulate_from n program inputs fuel s d).pause
  unfolding simulate_from
  pause_from zero s d = tt
  pause_from (suc fuel) s d =
      let effect = next_effect n program inputs s in
      on_narrow (λ (x : Simulated). NarrowPause x.pause) d (touched n (note_of d) effect)
      (touched_narrow n narrow (note_of d) effect (effect_below n inputs s.registers (next_instruction program s.counter)))
      (λ v p. p)
      (on_executed_lem (λ (x : Simulated). NarrowPause x.pause) (execute n (note_of d) s effect) (λ _. tt) (λ _. tt)
      (λ t l e. pause_from fuel t (with_notes d l)))

  pub pause_narrow : (s : Simulation) (d : Dictionary) → NarrowPause (simulate n program inputs s d).pause
  unfolding simulate
  pause_narrow s d = pause_from 32 s d

pub write_narrow : (number : ℕ) (d : Dictionary) (k : ℕ) → length (noted d) ≤ 32 → (write_from number d k).target < 256
write_narrow number d k p =
    on_test (λ (t : Control). t.target < 256) (ltb (next_write number d k) (length (noted d)))
    (λ t. let z = ltb-true (next_write number d k) (length (noted d)) t in omega arith) (λ _. omega arith)

pub control_narrow : (number : ℕ) (d : Dictionary) (p : Pause) → length (noted d) ≤ 32 → NarrowPause p → (after_pause number d p).target < 256
control_narrow number d Ended q h = write_narrow number d 0 q
control_narrow number d Faulted q h = omega arith
control_narrow number d (Lacks v) q h = h
