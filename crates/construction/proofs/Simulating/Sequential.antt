-- The sequential run: one instruction at a time, as many words at its end as at its start, and fuel past the end changes nothing.
use Prim.Native.Nat.{ℕ, zero, suc, ◌+◌, ◌≤◌, ◌<◌, min}
use mathlib.Core.Bool.{true, false}
use mathlib.Core.Path.{◌≡◌, refl, sym, subst, ap, ◌∙◌}
use mathlib.Core.Logic.{⊎_elim}
use mathlib.Core.List.{List, [], ◌∷◌}
use native.Mathlib.Omega.{arith}
use lib.Dec.{ltb}
use lib.ListN.{length, set, length-set, get_or-eq_default}
use borrow.Author.Tests.{ltb-true, ltb-false}
use Rattle.construction.specs.Types.{Words, Instruction, Line, Program, Effect, Simulation}
use Rattle.construction.specs.Instructions.{effect_of, next_effect, fetch, no_line, faulted, started}
use Rattle.construction.specs.Effects.{Store, Executed, execute, on_executed}
use Rattle.construction.specs.Weight.{weight}
use Rattle.construction.specs.Sequential.{Ending, ending, word_at, with_stores, next_executed, run_from, sequential}
use Rattle.construction.specs.Cells.{fault_yield}
use Rattle.construction.proofs.Basics.{on_test, true_or_false, true_false, cond_true, clash}
use Rattle.construction.proofs.Simulating.Effects.{on_executed_lem, Forward, execute_forward, MarkKept, execute_mark}

-- no instruction stands past place 31; the program weighs at most 32; only where there are variables does it touch any
pub record Short (n : ℕ) (program : Program) : Type 0 where
  pub ends : min program.length (length program.lines) ≤ 32
  pub light : weight program ≤ 32
  pub some : 0 < weight program → 0 < n

-- 'a sheet also stops past its end', and at place 32
pub fetch_end :
    (n : ℕ) (program : Program) (k : ℕ) → Short n program → min 32 program.length ≤ k → fetch program k ≡ Instruction.Stop
unfolding fetch
fetch_end n program k short h =
    on_test (λ (i : Instruction). i ≡ Instruction.Stop) (ltb k program.length)
    (λ t. ap (λ (l : Line). l.instruction)
    (get_or-eq_default program.lines no_line (omega (arith, short.ends, ltb-true k _ t))))
    (λ _. refl)

pub stores_length : (mem : List ℕ) (l : List Store) → length (with_stores mem l) ≡ length mem
stores_length mem [] = refl
stores_length mem (x ∷ l) = stores_length (set mem x.variable x.value) l ∙ length-set mem x.variable x.value

module _ (n : ℕ) (program : Program) (inputs : Words) where
  -- the run leaves as many words as it found
  pub run_length :
      (fuel : ℕ) (s : Simulation) (mem : List ℕ) → length (run_from n program inputs fuel s mem).words ≡ length mem
  unfolding run_from
  run_length zero s mem = refl
  run_length (suc fuel) s mem =
      on_executed_lem (λ (r : Ending). length r.words ≡ length mem) (next_executed n program inputs s mem)
      (λ _. refl)
      (λ _. refl)
      (λ t l _. run_length fuel t (with_stores mem l) ∙ stores_length mem l)

  -- a run that ends as a fault yields zeros and the mark
  run_fault :
      (fuel : ℕ) (s : Simulation) (mem : List ℕ) → s.yields.fault ≡ false → (run_from n program inputs fuel s mem).yields.fault ≡ true →
      (run_from n program inputs fuel s mem).yields ≡ fault_yield
  unfolding run_from faulted
  run_fault zero s mem c h = absurd (true_false _ h c)
  run_fault (suc fuel) s mem c h =
      on_executed_lem (λ (r : Ending). r.yields.fault ≡ true → r.yields ≡ fault_yield) (next_executed n program inputs s mem)
      (λ _ t. absurd (true_false _ t c))
      (λ _ _. refl)
      (λ t l e. run_fault fuel t (with_stores mem l)
      (subst (MarkKept s) e (execute_mark n (word_at mem) s (next_effect n program inputs s)) ∙ c)) h

  module _ (short : Short n program) where
    -- past the end the run has ended
    pub past_end : (s : Simulation) → min 32 program.length ≤ s.counter → next_effect n program inputs s ≡ Effect.Stop
    unfolding effect_of
    past_end s h = rw (fetch_end n program s.counter short h)

    -- every instruction that does not end the run moves the counter forward
    pub advances :
        (look : ℕ → ℕ) (s t : Simulation) (l : List Store) →
        execute n look s (next_effect n program inputs s) ≡ Executed.Goes t l → s.counter < 32 × s.counter < t.counter
    advances look s t l e =
        let h : s.counter < 32 = ⊎_elim (ltb-true _ _)
        (λ g. let z : next_effect n program inputs s ≡ Effect.Stop = past_end s (omega (arith, ltb-false s.counter 32 g)) in
        clash (cc))
        (true_or_false (ltb s.counter 32)) in
        (h, subst (Forward s.counter) e (execute_forward n look s (next_effect n program inputs s) h))

    -- fuel that reaches the end is enough
    enough :
        (fuel : ℕ) (s : Simulation) (mem : List ℕ) →
        32 ≤ fuel + s.counter → run_from n program inputs (suc fuel) s mem ≡ run_from n program inputs fuel s mem
    unfolding run_from
    enough zero s mem h = rw (past_end s (omega arith))
    enough (suc fuel) s mem h =
        on_executed_lem (λ r. r ≡ run_from n program inputs (suc fuel) s mem) (next_executed n program inputs s mem)
        (λ e. rw e refl)
        (λ e. rw e refl)
        (λ t l e. rw e (enough fuel t (with_stores mem l) (omega (arith, (advances (word_at mem) s t l e).1))))

    -- one instruction of the run; the fuel may stay
    pub run_step :
        (fuel : ℕ) (s : Simulation) (mem : List ℕ) →
        32 ≤ fuel + s.counter →
        run_from n program inputs fuel s mem
        ≡ on_executed (next_executed n program inputs s mem)
        (ending s mem)
        (ending (faulted s) mem)
        (λ t l. run_from n program inputs fuel t (with_stores mem l))
    unfolding run_from
    run_step fuel s mem h = sym (enough fuel s mem h)

-- the run of the bench: it leaves as many words as it found ..
pub sequential_length :
    (n : ℕ) (program : Program) (inputs : Words) (words : List ℕ) → length (sequential n program inputs words).words ≡ length words
unfolding sequential
sequential_length n program inputs words =
    on_test (λ (l : List ℕ). length l ≡ length words) (run_from n program inputs 32 started words).yields.fault (λ _. refl)
    (λ _. run_length n program inputs 32 started words)

-- .. and if it ends as a fault, those words, and it yields zeros and the mark
pub sequential_fault :
    (n : ℕ) (program : Program) (inputs : Words) (words : List ℕ) → (sequential n program inputs words).yields.fault ≡ true →
    sequential n program inputs words ≡ record { words = words; yields = fault_yield }
unfolding sequential
sequential_fault n program inputs words h =
    let y = run_fault n program inputs 32 started words refl h in
    λ i. record {
      words = cond_true (run_from n program inputs 32 started words).yields.fault words (run_from n program inputs 32 started words).words h i;
      yields =
          y i;
    }
