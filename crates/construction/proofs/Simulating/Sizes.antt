-- What fits 32-bit words stays so: no instruction makes a larger number of what it reads (document 01: 'Variables, inputs, outputs and the registers r0 to r3
-- are unsigned 32-bit words')
use Prim.Native.Nat.{ℕ, suc, ◌-◌, ◌<◌}
use mathlib.Core.Bool.{Bool, true, false, cond}
use mathlib.Core.List.{List, [], ◌∷◌}
use native.Mathlib.Omega.{arith}
use lib.Dec.{eqb, ltb}
use Rattle.construction.specs.Types.{Words, Instruction, Program, Effect, Simulation}
use Rattle.construction.specs.Cells.{FitsWords, zeros}
use Rattle.construction.specs.Instructions.{word, with_word, sum, difference, load, store, is_cell, free, effect_of, forward, with_register, with_output, skipped}
use Rattle.construction.specs.Instructions.{faulted, started, fetch, shortened, next_instruction, next_effect}
use Rattle.construction.specs.Effects.{Store, Executed, allocated, execute}

abbrev pub Small : ℕ → Type 0
Small x = x < 4294967296

-- by a test: of both outcomes
on_cond {ℓ κ} : {A : Type ℓ} (P : A → Type κ) (t : Bool) {x y : A} → P x → P y → P (cond t x y)
on_cond P true p q = p
on_cond P false p q = q

word_fits : (f : Words) (k : ℕ) → FitsWords f → Small (word f k)
unfolding word
word_fits f k p = on_cond Small (eqb k 0) p.w0 (on_cond Small (eqb k 1) p.w1 (on_cond Small (eqb k 2) p.w2 p.w3))

with_word_fits : (f : Words) (k x : ℕ) → FitsWords f → Small x → FitsWords (with_word f k x)
unfolding with_word
with_word_fits f k x p q =
    on_cond FitsWords (eqb k 0) (record { w0 = q; w1 = p.w1; w2 = p.w2; w3 = p.w3 })
    (on_cond FitsWords (eqb k 1) (record { w0 = p.w0; w1 = q; w2 = p.w2; w3 = p.w3 })
    (on_cond FitsWords (eqb k 2) (record { w0 = p.w0; w1 = p.w1; w2 = q; w3 = p.w3 })
    (record { w0 = p.w0; w1 = p.w1; w2 = p.w2; w3 = q })))

-- the constant of an instruction, the numbers of an effect
abbrev pub FitsConstant : Instruction → Type 0
FitsConstant Instruction.Stop = Unit {0}
FitsConstant (Instruction.Input a b) = Unit {0}
FitsConstant (Instruction.Constant a b) = Small b
FitsConstant (Instruction.Load a v) = Unit {0}
FitsConstant (Instruction.Store v b) = Unit {0}
FitsConstant (Instruction.LoadAt a b) = Unit {0}
FitsConstant (Instruction.StoreAt a b) = Unit {0}
FitsConstant (Instruction.Add a b) = Unit {0}
FitsConstant (Instruction.Subtract a b) = Unit {0}
FitsConstant (Instruction.SkipEqual a b c) = Unit {0}
FitsConstant (Instruction.SkipLess a b c) = Unit {0}
FitsConstant (Instruction.Output a b) = Unit {0}
FitsConstant (Instruction.Allocate a) = Unit {0}
FitsConstant (Instruction.Free a) = Unit {0}

shortened_fits : (r : ℕ) (x : Instruction) → FitsConstant x → FitsConstant (shortened r x)
shortened_fits r Instruction.Stop h = tt
shortened_fits r (Instruction.Input a b) h = tt
shortened_fits r (Instruction.Constant a b) h = h
shortened_fits r (Instruction.Load a v) h = tt
shortened_fits r (Instruction.Store v b) h = tt
shortened_fits r (Instruction.LoadAt a b) h = tt
shortened_fits r (Instruction.StoreAt a b) h = tt
shortened_fits r (Instruction.Add a b) h = tt
shortened_fits r (Instruction.Subtract a b) h = tt
shortened_fits r (Instruction.SkipEqual a b c) h = tt
shortened_fits r (Instruction.SkipLess a b c) h = tt
shortened_fits r (Instruction.Output a b) h = tt
shortened_fits r (Instruction.Allocate a) h = tt
shortened_fits r (Instruction.Free a) h = tt

abbrev FitsEffect : Effect → Type 0
FitsEffect Effect.Stop = Unit {0}
FitsEffect Effect.Fault = Unit {0}
FitsEffect (Effect.Set a x) = Small x
FitsEffect (Effect.Load a v) = Unit {0}
FitsEffect (Effect.Store v x) = Small x
FitsEffect (Effect.Output a x) = Small x
FitsEffect (Effect.Skip c) = Unit {0}
FitsEffect (Effect.Allocate a) = Unit {0}
FitsEffect (Effect.Free c) = Small c

module _ (n : ℕ) (inputs r : Words) (p : FitsWords inputs) (q : FitsWords r) where
  effect_fits : (e : Instruction) → FitsConstant e → FitsEffect (effect_of n inputs r e)
  unfolding effect_of load store free sum difference
  effect_fits Instruction.Stop h = tt
  effect_fits (Instruction.Input a b) h = word_fits inputs b p
  effect_fits (Instruction.Constant a b) h = h
  effect_fits (Instruction.Load a v) h = on_cond FitsEffect (ltb v n) tt tt
  effect_fits (Instruction.Store v b) h = on_cond FitsEffect (ltb v n) (word_fits r b q) tt
  effect_fits (Instruction.LoadAt a b) h = on_cond FitsEffect (ltb (word r b) n) tt tt
  effect_fits (Instruction.StoreAt a b) h = on_cond FitsEffect (ltb (word r a) n) (word_fits r b q) tt
  effect_fits (Instruction.Add a b) h = omega arith
  effect_fits (Instruction.Subtract a b) h = let k = word_fits r a q in omega arith
  effect_fits (Instruction.SkipEqual a b c) h = tt
  effect_fits (Instruction.SkipLess a b c) h = tt
  effect_fits (Instruction.Output a b) h = word_fits r b q
  effect_fits (Instruction.Allocate a) h = tt
  effect_fits (Instruction.Free a) h = on_cond FitsEffect (is_cell n (word r a)) (word_fits r a q) tt

-- a simulation: its counter is a place of a program
pub record FitsSimulation (s : Simulation) : Type 0 where
  pub counter : s.counter < 256
  pub registers : FitsWords s.registers
  pub outputs : FitsWords s.yields.outputs

pub zeros_fit : FitsWords zeros
zeros_fit = record { w0 = omega arith; w1 = omega arith; w2 = omega arith; w3 = omega arith }

pub started_fits : FitsSimulation started
started_fits = record { counter = omega arith; registers = zeros_fit; outputs = zeros_fit }

forward_fits : (k c : ℕ) → forward k c < 256
unfolding forward
forward_fits k c = omega arith

module _ (s : Simulation) (p : FitsSimulation s) where
  register_fits : (a x : ℕ) → Small x → FitsSimulation (with_register s a x)
  unfolding with_register
  register_fits a x h = record { counter = forward_fits _ _; registers = with_word_fits s.registers a x p.registers h; outputs = p.outputs }

  output_fits : (a x : ℕ) → Small x → FitsSimulation (with_output s a x)
  unfolding with_output
  output_fits a x h = record { counter = forward_fits _ _; registers = p.registers; outputs = with_word_fits s.yields.outputs a x p.outputs h }

  skipped_fits : (c : ℕ) → FitsSimulation (skipped s c)
  unfolding skipped
  skipped_fits c = record { counter = forward_fits _ _; registers = p.registers; outputs = p.outputs }

  pub faulted_fits : FitsSimulation (faulted s)
  unfolding faulted
  faulted_fits = record { counter = p.counter; registers = p.registers; outputs = zeros_fit }

abbrev pub FitStores : List Store → Type 0
FitStores [] = Unit {0}
FitStores (x ∷ l) = Small x.value × FitStores l

abbrev pub FitsExecuted : Executed → Type 0
FitsExecuted Executed.Ends = Unit {0}
FitsExecuted Executed.Faults = Unit {0}
FitsExecuted (Executed.Goes t l) = FitsSimulation t × FitStores l

execute_fits :
    (n : ℕ) (look : ℕ → ℕ) (s : Simulation) (e : Effect) → ((v : ℕ) → Small (look v)) → FitsSimulation s → FitsEffect e →
    FitsExecuted (execute n look s e)
unfolding allocated
execute_fits n look s Effect.Stop h p q = tt
execute_fits n look s Effect.Fault h p q = tt
execute_fits n look s (Effect.Set a x) h p q = (register_fits s p a x q, tt)
execute_fits n look s (Effect.Load a v) h p q = (register_fits s p a (look v) (h v), tt)
execute_fits n look s (Effect.Store v x) h p q = (skipped_fits s p 0, (q, tt))
execute_fits n look s (Effect.Output a x) h p q = (output_fits s p a x q, tt)
execute_fits n look s (Effect.Skip c) h p q = (skipped_fits s p c, tt)
execute_fits n look s (Effect.Allocate a) h p q =
    on_cond FitsExecuted (is_cell n (look 0)) (register_fits s p a (look 0) (h 0), (h (look 0), (omega arith, tt)))
    (on_cond FitsExecuted (eqb (look 0) 0) (register_fits s p a 0 (omega arith), tt) tt)
execute_fits n look s (Effect.Free c) h p q = (skipped_fits s p 0, (h 0, (q, tt)))

-- the next instruction of a program
pub next_fits :
    (n : ℕ) (program : Program) (inputs : Words) (look : ℕ → ℕ) (s : Simulation) →
    FitsConstant (fetch program s.counter) → FitsWords inputs → ((v : ℕ) → Small (look v)) → FitsSimulation s →
    FitsExecuted (execute n look s (next_effect n program inputs s))
next_fits n program inputs look s code given h p =
    execute_fits n look s (next_effect n program inputs s) h p
    (effect_fits n inputs s.registers given p.registers (next_instruction program s.counter)
    (shortened_fits (program.length - suc s.counter) (fetch program s.counter) code))
