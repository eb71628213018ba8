-- The definitions of the instructions by the tests that decide them, over plain values
use Prim.Native.Nat.{ℕ, zero, suc, ◌%◌, ◌<◌, ◌≤◌}
use mathlib.Core.Bool.{Bool, true, false, cond}
use mathlib.Core.Path.{◌≡◌, refl}
use native.Mathlib.Omega.{arith}
use lib.Dec.{eqb, ltb}
use lib.ListN.{length, get_or, get_or-eq_default}
use borrow.Author.Tests.{ne_eqb, lt-ltb, le-ltb, ltb-true, ltb-false}
use Rattle.construction.specs.declared.{cells.Words.Words, programs.Instruction.Instruction, programs.Line.Line, programs.Program.Program}
use Rattle.construction.specs.Instructions.{with_word, no_line, fetch}
use Rattle.programs.specs.Fetching.{instruction_at}

module _ (f : Words) (x : ℕ) where
  -- four words of which the one at place k is x
  placed : ℕ → Words
  placed k =
      record {
        w0 = cond (eqb k 0) x f.w0;
        w1 = cond (eqb k 1) x f.w1;
        w2 = cond (eqb k 2) x f.w2;
        w3 = cond (ltb 2 k) x f.w3;
      }

  placed_is : (k : ℕ) → placed k ≡ with_word f k x
  unfolding placed with_word
  placed_is zero = refl
  placed_is (suc zero) = refl
  placed_is (suc (suc zero)) = refl
  placed_is (suc (suc (suc k))) =
      rw (
        ne_eqb (suc (suc (suc k))) 0 (λ e. omega arith),
        ne_eqb (suc (suc (suc k))) 1 (λ e. omega arith),
        ne_eqb (suc (suc (suc k))) 2 (λ e. omega arith),
        lt-ltb 2 (suc (suc (suc k))) (omega arith),
      )

  pub with_word_lem :
      (k a b c d : ℕ) → a ≡ cond (eqb k 0) x f.w0 → b ≡ cond (eqb k 1) x f.w1 → c ≡ cond (eqb k 2) x f.w2 →
      d ≡ cond (ltb 2 k) x f.w3 → ◌≡◌ {A = Words} (record { w0 = a; w1 = b; w2 = c; w3 = d }) (with_word f k x)
  unfolding placed
  with_word_lem k a b c d p q r s = rw (p, q, r, s) (placed_is k)

module _ (size k : ℕ) (line : Line) where
  pub at_there : k < size → k < 32 → line.instruction ≡ instruction_at size k line
  unfolding instruction_at
  at_there p q = rw (lt-ltb _ _ p, lt-ltb _ _ q)

  pub at_past : k < size → 32 ≤ k → Instruction.Stop ≡ instruction_at size k line
  unfolding instruction_at
  at_past p q = rw (lt-ltb _ _ p, le-ltb _ _ q)

  pub at_end_lem : size ≤ k → Instruction.Stop ≡ instruction_at size k line
  unfolding instruction_at
  at_end_lem p = rw (le-ltb _ _ p)

-- by the line at a place modulo 32, which is always there
module _ (program : Program) (k : ℕ) (sized : length program.lines ≡ 32) where
  fetched_by :
      (b : Bool) → ltb k 32 ≡ b →
      instruction_at program.length k (get_or program.lines (k % 32) no_line) ≡ fetch program k
  unfolding instruction_at fetch
  fetched_by true p = rw (p, (let z : k % 32 ≡ k = omega (arith, ltb-true k 32 p) in z))
  fetched_by false p =
      rw (p, get_or-eq_default program.lines no_line {n = k} (omega (arith, ltb-false k 32 p)))

  pub fetched : instruction_at program.length k (get_or program.lines (k % 32) no_line) ≡ fetch program k
  fetched = fetched_by (ltb k 32) refl
