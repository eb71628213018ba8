-- Executions one after the other: what holds of each, dictionary order, and the places of schedules.
use Prim.Native.Nat.{ℕ, zero, suc, ◌<◌}
use mathlib.Core.Path.{◌≡◌, ap}
use mathlib.Core.Logic.{◌⊎◌, inl, inr}
use mathlib.Core.List.{List, [], ◌∷◌, ◌++◌, map}
use native.Mathlib.Omega.{arith}
use lib.ListN.{length}
use Rattle.construction.specs.declared.{answers.Answer.Answer}
use Rattle.executions.specs.Schedules.{Execution, preceded, Before, execution_at, Stands}
use Rattle.construction.proofs.Basics.{clash}

-- what holds of every execution
abbrev pub All : (Execution → Type 0) → List Execution → Type 0
All P [] = Unit
All P (r ∷ l) = P r × All P l

pub all_append : (P : Execution → Type 0) (l m : List Execution) → All P l → All P m → All P (l ++ m)
all_append P [] m h k = k
all_append P (r ∷ l) m h k = (h.0, all_append P l m h.1 k)

pub all_map : (P Q : Execution → Type 0) (f : Execution → Execution) → ((r : Execution) → P r → Q (f r)) → (l : List Execution) → All P l → All Q (map f l)
all_map P Q f t [] h = tt
all_map P Q f t (r ∷ l) h = (t r h.0, all_map P Q f t l h.1)

pub all_of : (P : Execution → Type 0) → ((r : Execution) → P r) → (l : List Execution) → All P l
all_of P h [] = tt
all_of P h (r ∷ l) = (h r, all_of P h l)

pub all_weaken : (P Q : Execution → Type 0) → ((r : Execution) → P r → Q r) → (l : List Execution) → All P l → All Q l
all_weaken P Q t [] h = tt
all_weaken P Q t (r ∷ l) h = (t r h.0, all_weaken P Q t l h.1)

pub all_at : (P : Execution → Type 0) (l : List Execution) (k : ℕ) → k < length l → All P l → P (execution_at l k)
all_at P [] k lt h = absurd (omega arith)
all_at P (r ∷ l) zero lt h = h.0
all_at P (r ∷ l) (suc k) lt h = all_at P l k (omega arith) h.1

-- a schedule stands among executions
abbrev pub Has : List ℕ → List Execution → Type 0
Has s [] = ⊥
Has s (r ∷ l) = (r.schedule ≡ s) ⊎ Has s l

pub has_left : (s : List ℕ) (l m : List Execution) → Has s l → Has s (l ++ m)
has_left s [] m h = absurd h
has_left s (r ∷ l) m (inl e) = inl e
has_left s (r ∷ l) m (inr h) = inr (has_left s l m h)

pub has_right : (s : List ℕ) (l m : List Execution) → Has s m → Has s (l ++ m)
has_right s [] m h = h
has_right s (r ∷ l) m h = inr (has_right s l m h)

pub has_preceded : (i : ℕ) (a : Answer) (s : List ℕ) (l : List Execution) → Has s l → Has (i ∷ s) (map (preceded i a) l)
has_preceded i a s [] h = absurd h
has_preceded i a s (r ∷ l) (inl e) = inl (ap (λ (t : List ℕ). i ∷ t) e)
has_preceded i a s (r ∷ l) (inr h) = inr (has_preceded i a s l h)

pub stands : (s : List ℕ) (l : List Execution) → Has s l → Stands s l
stands s [] h = absurd h
stands s (r ∷ l) (inl e) = record { place = 0; within = omega arith; there = e }
stands s (r ∷ l) (inr h) =
    let S = stands s l h in
    record { place = suc S.place; within = omega (arith, S.within); there = S.there }

-- executions in dictionary order, each before all that follow
abbrev pub BeforeAll : Execution → List Execution → Type 0
BeforeAll r l = All (λ x. Before r.schedule x.schedule) l

abbrev pub Sorted : List Execution → Type 0
Sorted [] = Unit
Sorted (r ∷ l) = BeforeAll r l × Sorted l

pub sorted_append : (l m : List Execution) → Sorted l → Sorted m → All (λ r. BeforeAll r m) l → Sorted (l ++ m)
sorted_append [] m h k b = k
sorted_append (r ∷ l) m h k b =
    (all_append (λ x. Before r.schedule x.schedule) l m h.0 b.0, sorted_append l m h.1 k b.1)

pub sorted_preceded : (i : ℕ) (a : Answer) (l : List Execution) → Sorted l → Sorted (map (preceded i a) l)
sorted_preceded i a [] h = tt
sorted_preceded i a (r ∷ l) h = (
  all_map (λ x. Before r.schedule x.schedule) (λ x. Before (i ∷ r.schedule) x.schedule) (preceded i a) (λ x b. Before.later b) l h.0,
  sorted_preceded i a l h.1,
)

pub sorted_at : (l : List Execution) → Sorted l → (j k : ℕ) → j < k → k < length l → Before (execution_at l j).schedule (execution_at l k).schedule
sorted_at [] h j k jk kl = absurd (omega arith)
sorted_at (r ∷ l) h j zero jk kl = absurd (omega arith)
sorted_at (r ∷ l) h zero (suc k) jk kl = all_at (λ x. Before r.schedule x.schedule) l k (omega arith) h.0
sorted_at (r ∷ l) h (suc j) (suc k) jk kl = sorted_at l h.1 j k (omega arith) (omega arith)

-- dictionary order is strict
pub before_not : {s t : List ℕ} → Before s t → s ≡ t → ⊥
before_not Before.shorter e = clash (cc)
before_not (Before.lower {i} {j} lt) e = let z : i ≡ j = cc in omega arith
before_not (Before.later b) e = before_not b (cc)
