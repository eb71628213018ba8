-- The numbers of refusals, and numbers in a lent array.
use Prim.Native.Nat.{ℕ, ◌<◌}
use mathlib.Core.List.{List, [], ◌∷◌}
use mathlib.Core.Path.{◌≡◌, ◌∙◌, ap}
use native.Mathlib.Omega.{arith}
use borrow.Author.Tests.{ne_eqb}
use Rattle.construction.specs.declared.{accesses.LabelRow.LabelRow, answers.Report.Report}
use Rattle.construction.specs.declared.answers.Refusal.{Refusal}
use Rattle.construction.specs.declared.answers.Refusal.TheVariants.{TooLong, Malformed, OutOfRange, UnknownCode, NoProcess, NoProgram, Busy, NotBusy, NoPlace}
use Rattle.construction.specs.declared.answers.Refusal.TheVariants.{LimitReached, ShortBuffer, OperandOutOfRange, UnusedOperand, TooHeavy, NotAhead, Unsettled}
use Rattle.construction.specs.declared.answers.Refusal.TheVariants.{TooLarge, BadTerms, NoAllowance}
use Rattle.construction.specs.Answers.{number_of}
use Rattle.construction.specs.Labels.{label_row}
use Rattle.construction.specs.Reports.{swap_byte}
use Rattle.codes.specs.Parts.{stores}
use Rattle.embedding.specs.Numbers.{told, cell_letter, cell_number, report_numbers}

-- a refusal's number is not 0, and small
pub small_number : (r : Refusal) → (0 < number_of r) × (number_of r < 256)
small_number TooLong = (omega arith, omega arith)
small_number Malformed = (omega arith, omega arith)
small_number OutOfRange = (omega arith, omega arith)
small_number UnknownCode = (omega arith, omega arith)
small_number NoProcess = (omega arith, omega arith)
small_number NoProgram = (omega arith, omega arith)
small_number Busy = (omega arith, omega arith)
small_number NotBusy = (omega arith, omega arith)
small_number NoPlace = (omega arith, omega arith)
small_number LimitReached = (omega arith, omega arith)
small_number ShortBuffer = (omega arith, omega arith)
small_number OperandOutOfRange = (omega arith, omega arith)
small_number UnusedOperand = (omega arith, omega arith)
small_number TooHeavy = (omega arith, omega arith)
small_number NotAhead = (omega arith, omega arith)
small_number Unsettled = (omega arith, omega arith)
small_number TooLarge = (omega arith, omega arith)
small_number BadTerms = (omega arith, omega arith)
small_number NoAllowance = (omega arith, omega arith)

-- what a value comes to, by the case that it is
pub by_case : {A : Type 0} {a b : A} (status : A → ℕ) (numbers : A → List ℕ) {r : ℕ} (o z : List ℕ) → a ≡ b → r ≡ status b → z ≡ told o (numbers b)
    → (r ≡ status a) × (z ≡ told o (numbers a))
by_case status numbers o z e p q = (rw e p, rw e q)

-- no access, and an access put part by part
pub told_none : (r : Report) (x : LabelRow) (o : List ℕ) → x ≡ label_row r.label → x.letter ≡ 0 → o ≡ told o (report_numbers r)
unfolding report_numbers
told_none r x o e z = rw (← e, z)

pub told_access :
    (r : Report) (x : LabelRow) (o : List ℕ) {y z v : List ℕ} → x ≡ label_row r.label → (x.letter ≡ 0 → ⊥) → y ≡ stores o 0 (x.letter ∷ x.number ∷ []) →
    z ≡ stores y 2 (cell_letter r.cell ∷ cell_number r.cell ∷ []) →
    v ≡ stores z 4 (swap_byte r.swap ∷ r.number ∷ r.noted ∷ r.count ∷ []) → v ≡ told o (report_numbers r)
unfolding report_numbers
told_access r x o e n p q s =
    rw (ne_eqb (label_row r.label).letter 0 (λ z. n (ap (λ (y : LabelRow). y.letter) e ∙ z)), ← e, s, q, p)
