-- The place of a process within its program never passes 32, nor the end of the program: 'a skip past the end stands at the end' (document 02,
-- order 5).
use Prim.Native.Nat.{ℕ, suc, ◌+◌, ◌-◌, ◌≤◌, ◌<◌, min}
use mathlib.Core.Path.{◌≡◌, subst}
use mathlib.Core.List.{List}
use mathlib.Core.Logic.{⊎_elim}
use native.Mathlib.Omega.{arith}
use lib.Dec.{eqb, ltb}
use lib.ListN.{get_or, set}
use borrow.Author.Tests.{ltb-true}
use Rattle.std.specs.Prelude.{Option}
use Rattle.construction.specs.Types.{Words, Announcement, Record, Instruction, Program, Effect, Dictionary, Simulation, Access, Control, Begun, Helped}
use Rattle.construction.specs.Types.{Card, Answered}
use Rattle.construction.specs.Instructions.{word, load, store, free, is_cell, effect_of, fetch, shortened, next_effect, forward, with_register, with_output}
use Rattle.construction.specs.Instructions.{skipped, faulted, started}
use Rattle.construction.specs.Effects.{Executed, allocated, execute}
use Rattle.construction.specs.Dictionary.{empty, insert, item_of}
use Rattle.construction.specs.Helping.{note_of, simulate}
use Rattle.construction.specs.Parts.{local_at}
use Rattle.construction.specs.Machine.{helps, begin_help, begun_from, note, access_in, perform, advance}
use Rattle.construction.specs.Opening.{fresh, opened}
use Rattle.construction.specs.History.{Entry, observe, run}
use Rattle.construction.proofs.Basics.{on_test, true_or_false, set_keeps, get_or_replicate_same}
use Rattle.construction.proofs.Simulating.Simulations.{kept_simulated}
use Rattle.construction.proofs.Observing.Outcomes.{Outcome, outcome}
use Rattle.construction.proofs.Observing.Runs.{opened_keeps}

-- a skip of c at place k of a program goes on at the instruction after those skipped, and past the program's end it stands at that end
module _ (program : Program) (k c : ℕ) (room : program.length ≤ 32) where
  pub skip_within : suc (k + c) ≤ program.length → forward k (min c (program.length - suc k)) ≡ suc (k + c)
  unfolding forward
  skip_within h = omega arith

  pub skip_past_lem : k < program.length → program.length ≤ suc (k + c) → forward k (min c (program.length - suc k)) ≡ program.length
  unfolding forward
  skip_past_lem l h = omega arith

forward_room : (k c : ℕ) → forward k c ≤ 32
unfolding forward
forward_room k c = omega arith

-- an effect that goes on leaves the counter within the room
abbrev CounterWithin : Executed → Type 0
CounterWithin Executed.Ends = Unit {0}
CounterWithin Executed.Faults = Unit {0}
CounterWithin (Executed.Goes t l) = t.counter ≤ 32

execute_within : (n : ℕ) (look : ℕ → ℕ) (s : Simulation) (e : Effect) → CounterWithin (execute n look s e)
unfolding allocated with_register with_output skipped
execute_within n look s Effect.Stop = tt
execute_within n look s Effect.Fault = tt
execute_within n look s (Effect.Set a x) = forward_room s.counter 0
execute_within n look s (Effect.Load a v) = forward_room s.counter 0
execute_within n look s (Effect.Store v x) = forward_room s.counter 0
execute_within n look s (Effect.Output a x) = forward_room s.counter 0
execute_within n look s (Effect.Skip c) = forward_room s.counter c
execute_within n look s (Effect.Allocate a) =
    on_test CounterWithin (is_cell n (look 0)) (λ _. forward_room s.counter 0)
    (λ _. on_test CounterWithin (eqb (look 0) 0) (λ _. forward_room s.counter 0) (λ _. tt))
execute_within n look s (Effect.Free c) = forward_room s.counter 0

-- a simulation, from whatever state within the room
simulate_within :
    (n : ℕ) (program : Program) (inputs : Words) (s : Simulation) (d : Dictionary) → s.counter ≤ 32 →
    (simulate n program inputs s d).simulation.counter ≤ 32
unfolding faulted
simulate_within n program inputs =
    kept_simulated n program inputs (λ s _. s.counter ≤ 32) (λ _ _ h. h)
    (λ s d _ _ _ e _. subst CounterWithin e (execute_within n (note_of d) s (next_effect n program inputs s)))

-- no instruction with so many behind it skips more than those
abbrev SkipsWithin : ℕ → Effect → Type 0
SkipsWithin left Effect.Stop = Unit {0}
SkipsWithin left Effect.Fault = Unit {0}
SkipsWithin left (Effect.Set a x) = Unit {0}
SkipsWithin left (Effect.Load a v) = Unit {0}
SkipsWithin left (Effect.Store v x) = Unit {0}
SkipsWithin left (Effect.Output a x) = Unit {0}
SkipsWithin left (Effect.Skip c) = c ≤ left
SkipsWithin left (Effect.Allocate a) = Unit {0}
SkipsWithin left (Effect.Free c) = Unit {0}

shortened_within : (n left : ℕ) (inputs r : Words) (i : Instruction) → SkipsWithin left (effect_of n inputs r (shortened left i))
unfolding effect_of load store free
shortened_within n left inputs r Instruction.Stop = tt
shortened_within n left inputs r (Instruction.Input a b) = tt
shortened_within n left inputs r (Instruction.Constant a b) = tt
shortened_within n left inputs r (Instruction.Load a v) = on_test (SkipsWithin left) (ltb v n) (λ _. tt) (λ _. tt)
shortened_within n left inputs r (Instruction.Store v b) = on_test (SkipsWithin left) (ltb v n) (λ _. tt) (λ _. tt)
shortened_within n left inputs r (Instruction.LoadAt a b) = on_test (SkipsWithin left) (ltb (word r b) n) (λ _. tt) (λ _. tt)
shortened_within n left inputs r (Instruction.StoreAt a b) = on_test (SkipsWithin left) (ltb (word r a) n) (λ _. tt) (λ _. tt)
shortened_within n left inputs r (Instruction.Add a b) = tt
shortened_within n left inputs r (Instruction.Subtract a b) = tt
shortened_within n left inputs r (Instruction.SkipEqual a b c) =
    on_test (λ (k : ℕ). k ≤ left) (eqb (word r a) (word r b)) (λ _. omega arith) (λ _. omega arith)
shortened_within n left inputs r (Instruction.SkipLess a b c) =
    on_test (λ (k : ℕ). k ≤ left) (ltb (word r a) (word r b)) (λ _. omega arith) (λ _. omega arith)
shortened_within n left inputs r (Instruction.Output a b) = tt
shortened_within n left inputs r (Instruction.Allocate a) = tt
shortened_within n left inputs r (Instruction.Free a) = on_test (SkipsWithin left) (is_cell n (word r a)) (λ _. tt) (λ _. tt)

-- an effect before the end of a program leaves the counter before it or at it
abbrev Standing : ℕ → Executed → Type 0
Standing end Executed.Ends = Unit {0}
Standing end Executed.Faults = Unit {0}
Standing end (Executed.Goes t l) = t.counter ≤ end

module _ (end k : ℕ) (below : k < end) where
  forward_end : (c : ℕ) → c ≤ end - suc k → forward k c ≤ end
  unfolding forward
  forward_end c h = omega arith

  next_end : forward k 0 ≤ end
  next_end = forward_end 0 (omega arith)

execute_stands :
    (end n : ℕ) (look : ℕ → ℕ) (s : Simulation) → s.counter < end → (e : Effect) → SkipsWithin (end - suc s.counter) e →
    Standing end (execute n look s e)
unfolding allocated with_register with_output skipped
execute_stands end n look s b Effect.Stop h = tt
execute_stands end n look s b Effect.Fault h = tt
execute_stands end n look s b (Effect.Set a x) h = next_end end s.counter b
execute_stands end n look s b (Effect.Load a v) h = next_end end s.counter b
execute_stands end n look s b (Effect.Store v x) h = next_end end s.counter b
execute_stands end n look s b (Effect.Output a x) h = next_end end s.counter b
execute_stands end n look s b (Effect.Skip c) h = forward_end end s.counter b c h
execute_stands end n look s b (Effect.Allocate a) h =
    on_test (Standing end) (is_cell n (look 0)) (λ _. next_end end s.counter b)
    (λ _. on_test (Standing end) (eqb (look 0) 0) (λ _. next_end end s.counter b) (λ _. tt))
execute_stands end n look s b (Effect.Free c) h = next_end end s.counter b

-- at the end or past it a program stops
next_stands :
    (n : ℕ) (program : Program) (inputs : Words) (look : ℕ → ℕ) (s : Simulation) → Standing program.length (execute n look s (next_effect n program inputs s))
unfolding fetch effect_of
next_stands n program inputs look s =
    ⊎_elim
    (λ t. execute_stands program.length n look s (ltb-true _ _ t) (next_effect n program inputs s)
    (shortened_within n (program.length - suc s.counter) inputs s.registers (fetch program s.counter)))
    (λ f. rw f tt)
    (true_or_false (ltb s.counter program.length))

-- the counter of a simulation never passes the end of its program
pub stands_within :
    (n : ℕ) (program : Program) (inputs : Words) (s : Simulation) (d : Dictionary) → s.counter ≤ program.length →
    (simulate n program inputs s d).simulation.counter ≤ program.length
unfolding faulted
stands_within n program inputs =
    kept_simulated n program inputs (λ s _. s.counter ≤ program.length) (λ _ _ h. h)
    (λ s d _ _ _ e _. subst (Standing program.length) e (next_stands n program inputs (note_of d) s))

-- what helping begins with and goes on with
begin_within :
    (n : ℕ) (program : Program) (cell : Announcement) (number : ℕ) (t : Control) (s : Simulation) → s.counter ≤ 32 →
    (begun_from t s (begin_help n program cell number)).simulation.counter ≤ 32
unfolding begin_help
begin_within n program cell number t s h =
    on_test (λ (x : Option Begun). (begun_from t s x).simulation.counter ≤ 32) (helps cell number)
    (λ _. simulate_within n program cell.words started empty (omega arith)) (λ _. h)

note_within :
    (n : ℕ) (program : Program) (inputs : Words) (cell : Record) (number : ℕ) (t : Control) (s : Simulation) (d : Dictionary) (mask : ℕ) →
    s.counter ≤ 32 → (note n program inputs cell number t s d mask).simulation.counter ≤ 32
unfolding note
note_within n program inputs cell number t s d mask h =
    on_test (λ (x : Helped). x.simulation.counter ≤ 32) (ltb number cell.seq) (λ _. h)
    (λ _. simulate_within n program inputs s (insert d (item_of number t.target cell)) h)

-- every process of a card
abbrev AllWithin : Card → Type 0
AllWithin c = (i : ℕ) → (local_at c i).simulation.counter ≤ 32

put_within : (c : Card) (i j : ℕ) (s : Simulation) → AllWithin c → s.counter ≤ 32 → (get_or (set c.simulations j s) i started).counter ≤ 32
put_within c i j s h q = set_keeps (λ (x : Simulation). x.counter ≤ 32) c.simulations j i s started (λ _. q) (h i)

step_within : (a : Access) (c : Card) (j : ℕ) → AllWithin c → AllWithin (perform a c j).card
unfolding perform
step_within Access.None c j h i = put_within c i j _ h (h j)
step_within (Access.Gate a) c j h i = put_within c i j _ h (h j)
step_within (Access.Announcement a) c j h i = put_within c i j _ h (h j)
step_within Access.Help c j h i = put_within c i j _ h (begin_within _ _ _ _ (local_at c j).control _ (h j))
step_within Access.Note c j h i = put_within c i j _ h (note_within _ _ _ _ _ _ _ _ _ (h j))
step_within Access.Write c j h i = put_within c i j _ h (h j)

entry_within : (c : Card) {e : Entry} {r : Answered} → Outcome c e r → AllWithin c → AllWithin r.card
unfolding advance
entry_within c (Outcome.turned_back e why) h = h
entry_within c (Outcome.called j k inputs p b) h = λ i. put_within c i j _ h (h j)
entry_within c (Outcome.asked j p) h = λ i. put_within c i j _ h (h j)
entry_within c (Outcome.stepped j x p b l) h = step_within (access_in (local_at c j)) c j h
entry_within c (Outcome.shown v x) h = h
entry_within c (Outcome.unaltered k from t why line) h = h
entry_within c (Outcome.altered k from t p a l u) h = h

-- over every text and every list of entries
pub counters : (t : List ℕ) (es : List Entry) (i : ℕ) → (local_at (run (opened t).card es).card i).simulation.counter ≤ 32
unfolding opened fresh observe
counters t =
    opened_keeps t (λ m. AllWithin m.card) (λ m _ e. entry_within m.card (outcome m.card e))
    (λ i. rw (get_or_replicate_same 8 i started) (omega arith))
