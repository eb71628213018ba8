-- A sweep in parts: a schedule behind another, the counts of each, and what is left of a schedule where the limit is reached.
use Prim.Native.Nat.{ℕ, ◌+◌, ◌≤◌}
use mathlib.Core.Path.{◌≡◌, refl, ◌∙◌, ap}
use mathlib.Core.Bool.{Bool, true, false, not, ◌&&◌}
use mathlib.Core.List.{List, [], ◌∷◌, ◌++◌}
use native.Mathlib.Nat.{add-zero}
use native.Mathlib.Omega.{arith}
use lib.Dec.{ltb}
use lib.ListN.{length}
use borrow.Author.Tests.{le-ltb}
use Rattle.construction.specs.declared.answers.Answer.{Answer}
use Rattle.construction.specs.Requests.{is_idle}
use Rattle.block.specs.Layout.{process_count_in, limit_in, steps_in, control_in}
use Rattle.lent_steps.specs.Steps.{answer_to, step_block, step_loan}
use Rattle.lent_sweep.specs.declared.Counts.{Counts}
use Rattle.lent_sweep.specs.Sweeps.{none, with_done, with_answer, again, sum_of, Sweep, start, sweep_step, swept, is_accepted}
use Rattle.lent_sweep.proofs.Steps.{step_unmoved, Tallied, tallied_more}

pub swept_append : (calls : List ℕ) (xs ys : List ℕ) (s : Sweep) → swept calls s (xs ++ ys) ≡ swept calls (swept calls s xs) ys
unfolding swept
swept_append calls [] ys s = refl
swept_append calls (i ∷ xs) ys s = swept_append calls xs ys (sweep_step calls s i)

-- the counts of a part behind those of an earlier one
counts_same : {c d : Counts} → c.accepted ≡ d.accepted → c.done ≡ d.done → c.faulted ≡ d.faulted → c.exited ≡ d.exited → c.longest ≡ d.longest → c ≡ d
counts_same e f g h k = λ j. record { accepted = e j; done = f j; faulted = g j; exited = h j; longest = k j }

sum_done : (c d : Counts) (fault : Bool) (steps : ℕ) → with_done (sum_of c d) fault steps ≡ sum_of c (with_done d fault steps)
sum_done c d true steps = counts_same (omega arith) refl (omega arith) refl (omega arith)
sum_done c d false steps = counts_same (omega arith) (omega arith) refl refl (omega arith)

sum_answer : (c d : Counts) (x : Answer) → with_answer (sum_of c d) x ≡ sum_of c (with_answer d x)
sum_answer c d Answer.Taken = refl
sum_answer c d Answer.Run = counts_same (omega arith) refl refl refl refl
sum_answer c d (Answer.Done number y steps) = sum_done c d y.fault steps
sum_answer c d (Answer.Exited steps) = counts_same (omega arith) refl refl (omega arith) (omega arith)
sum_answer c d (Answer.Value x) = refl
sum_answer c d (Answer.Refused why) = refl
sum_answer c d (Answer.RefusedAt why line) = refl

abbrev pub behind : Counts → Sweep → Sweep
behind c s = record { block = s.block; loan = s.loan; counts = sum_of c s.counts }

swept_behind : (calls : List ℕ) (xs : List ℕ) (c : Counts) (s : Sweep) → swept calls (behind c s) xs ≡ behind c (swept calls s xs)
unfolding swept
swept_behind calls [] c s = refl
swept_behind calls (i ∷ xs) c s =
    let x = answer_to s.block s.loan i in
    let e = sum_answer c s.counts x in
    ap
    (λ (k : Counts). swept calls
    (record { block = again calls (step_block s.block s.loan i) i x; loan = step_loan s.block s.loan i; counts = k }) xs)
    e
    ∙ swept_behind calls xs c (sweep_step calls s i)

pub swept_from : (calls : List ℕ) (b l xs : List ℕ) (c : Counts) →
    swept calls (record { block = b; loan = l; counts = c }) xs ≡ behind c (swept calls (start b l) xs)
swept_from calls b l xs c =
    let e : c ≡ sum_of c none = counts_same (omega arith) (omega arith) (omega arith) (omega arith) (omega arith) in
    ap (λ (k : Counts). swept calls (record { block = b; loan = l; counts = k }) xs) e ∙ swept_behind calls xs c (start b l)

-- at the limit nothing moves
never : (p q : Bool) → p && (q && false) ≡ false
never true true = refl
never true false = refl
never false q = refl

pub swept_limit : (calls b l : List ℕ) (c : Counts) → limit_in b ≤ steps_in b → (xs : List ℕ) →
    swept calls (record { block = b; loan = l; counts = c }) xs ≡ record { block = b; loan = l; counts = c }
unfolding swept
swept_limit calls b l c h [] = refl
swept_limit calls b l c h (i ∷ xs) =
    let full : is_accepted b i ≡ false = rw (le-ltb (steps_in b) (limit_in b) h)
    (never (ltb i (process_count_in b) && ltb i 8) (not (is_idle (control_in b i).place))) in
    rw (step_unmoved calls b l c i full) (swept_limit calls b l c h xs)

-- the counts of a part are no more than its steps
pub tallied_swept : (calls : List ℕ) (xs : List ℕ) (s : Sweep) (n : ℕ) → Tallied n s.counts → Tallied (n + length xs) (swept calls s xs).counts
unfolding swept
tallied_swept calls [] s n h = rw (add-zero n) h
tallied_swept calls (i ∷ xs) s n h =
    let z = tallied_swept calls xs (sweep_step calls s i) (n + 1) (tallied_more (answer_to s.block s.loan i) h) in
    record { accepted = omega (arith, z.accepted); returned = z.returned }
