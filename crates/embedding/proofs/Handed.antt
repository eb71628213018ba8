-- What a request hands back, from what the function below it ensures and from how its answer is told.
use Prim.Native.Nat.{ℕ}
use mathlib.Core.Path.{◌≡◌, sym, ◌∙◌, ap}
use mathlib.Core.Bool.{Bool, true, false}
use mathlib.Core.List.{List}
use lib.Dec.{ltb}
use lib.ListN.{length}
use Rattle.loan.specs.Loans.{loan_words}
use Rattle.lent_steps.specs.declared.tracing.Told.{Told}
use Rattle.lent_steps.specs.Steps.{answer_to, step_block, step_loan, report_to}
use Rattle.lent_sweep.specs.declared.Counts.{Counts}
use Rattle.lent_sweep.specs.Sweeps.{Sweeps}
use Rattle.embedding.specs.Numbers.{told, status_of, numbers_of, report_numbers, count_numbers}
use Rattle.embedding.specs.Requests.{Traces, is_short, Runs}

-- a value that is told, and told as what it equals
abbrev pub Tells : {A : Type 0} → (A → ℕ) → (A → List ℕ) → A → List ℕ → ℕ → List ℕ → Type 0
Tells status numbers a o r z = (r ≡ status a) × (z ≡ told o (numbers a))

pub tells : {A : Type 0} {a b : A} (status : A → ℕ) (numbers : A → List ℕ) (o : List ℕ) {r : ℕ} {z : List ℕ} → a ≡ b → Tells status numbers a o r z
    → Tells status numbers b o r z
tells status numbers o e (p, q) = (rw (← e) p, rw (← e) q)

-- a traced step: its answer and its report
pub traces :
    {b l : List ℕ} {i : ℕ} (o u : List ℕ) {a : Told} {r : ℕ} {c m z v : List ℕ} →
    (a.answer ≡ answer_to b l i) × (a.report ≡ report_to b l i) × (c ≡ step_block b l i) × (m ≡ step_loan b l i) →
    (r ≡ status_of a.answer) × (z ≡ told o (numbers_of a.answer)) × (v ≡ told u (report_numbers a.report)) → Traces b l i o u r c m z v
traces o u (e, f, g, k) (p, q, s) =
    let h = tells status_of numbers_of o e (p, q) in
    record { step = record { status = h.0; block = g; loan = k; out = h.1 }; report = rw (← f) s }

-- a run over a schedule, with a loan that is too short and with one that is long enough
judged : (b l : List ℕ) {n : ℕ} {t : Bool} → n ≡ loan_words b → ltb (length l) n ≡ t → is_short b l ≡ t
judged b l e h = ap (λ (w : ℕ). ltb (length l) w) (sym e) ∙ h

module _ (b l k s o : List ℕ) {n : ℕ} {x : Counts} {c m : List ℕ} where
  pub runs_short : n ≡ loan_words b → ltb (length l) n ≡ true → Sweeps k b l s x c m → Runs b l k s o 11 c m o
  runs_short e t h = record { status = rw (judged b l e t); block = h.block; loan = h.loan; out = rw (judged b l e t) }

  pub runs : {z : List ℕ} → n ≡ loan_words b → ltb (length l) n ≡ false → Sweeps k b l s x c m → z ≡ told o (count_numbers x) → Runs b l k s o 0 c m z
  runs e t h p = record { status = rw (judged b l e t); block = h.block; loan = h.loan; out = rw (judged b l e t, ← h.counts) p }
