-- A simulation whose numbers fit their words stays so: what it stores in the block and in the loan is read again.
use Prim.Native.Nat.{ℕ}
use mathlib.Core.Path.{subst}
use mathlib.Core.List.{List, [], ◌∷◌}
use lib.ListN.{get_or}
use Rattle.construction.specs.Cells.{FitsWords}
use Rattle.construction.specs.Instructions.{fetch}
use Rattle.construction.specs.Effects.{Store}
use Rattle.construction.specs.Dictionary.{no_item, assign, find}
use Rattle.construction.specs.Helping.{note_of, with_notes, simulate}
use Rattle.construction.proofs.Basics.{set_keeps}
use Rattle.construction.proofs.Simulating.Sizes.{Small, FitsConstant, FitsSimulation, FitStores, FitsExecuted, faulted_fits, next_fits}
use Rattle.construction.proofs.Simulating.Simulations.{kept_simulated}
use Rattle.codes.specs.Types.{Words, Instruction, Program, Simulation, Item, Dictionary}
use Rattle.codes.proofs.Programs.{FitsInstruction, FitsProgram, fetch_fits}

constant_fits : (x : Instruction) → FitsInstruction x → FitsConstant x
constant_fits Instruction.Stop h = tt
constant_fits (Instruction.Input a b) h = tt
constant_fits (Instruction.Constant a b) h = h.1
constant_fits (Instruction.Load a v) h = tt
constant_fits (Instruction.Store v b) h = tt
constant_fits (Instruction.LoadAt a b) h = tt
constant_fits (Instruction.StoreAt a b) h = tt
constant_fits (Instruction.Add a b) h = tt
constant_fits (Instruction.Subtract a b) h = tt
constant_fits (Instruction.SkipEqual a b c) h = tt
constant_fits (Instruction.SkipLess a b c) h = tt
constant_fits (Instruction.Output a b) h = tt
constant_fits (Instruction.Allocate a) h = tt
constant_fits (Instruction.Free a) h = tt

-- every value of a dictionary
abbrev pub SmallValues : Dictionary → Type 0
SmallValues d = (k : ℕ) → Small (get_or d.items k no_item).value

notes_small : (d : Dictionary) (l : List Store) → SmallValues d → FitStores l → SmallValues (with_notes d l)
unfolding assign
notes_small d [] p q = p
notes_small d (x ∷ l) p q =
    notes_small (assign d (find d x.variable) x.value) l
    (λ k. set_keeps (λ (e : Item). Small e.value) d.items (find d x.variable) k _ no_item (λ z. q.0) (p k)) q.1

-- what a simulation leaves fits the words, if what it is given does
pub simulate_small :
    (n : ℕ) (program : Program) (inputs : Words) (s : Simulation) (d : Dictionary) →
    FitsProgram program → FitsWords inputs → FitsSimulation s → SmallValues d →
    FitsSimulation (simulate n program inputs s d).simulation × SmallValues (simulate n program inputs s d).dictionary
simulate_small n program inputs s d code given p q =
    kept_simulated n program inputs (λ t x. FitsSimulation t × SmallValues x)
    (λ t x h. (faulted_fits t h.0, h.1))
    (λ t x u l _ e h.
    let code = constant_fits (fetch program t.counter) (fetch_fits program code t.counter) in
    let done = subst FitsExecuted e (next_fits n program inputs (note_of x) t code given (λ v. h.1 (find x v)) h.0) in
    (done.0, notes_small x l h.1 done.1))
    s d (p, q)
