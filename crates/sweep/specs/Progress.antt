-- What the program tells on standard error while it sweeps (docs/FORMATS.md): how many of the steps are done, how many in a second, and how many seconds
-- are left.
use Rattle.std.specs.Prelude.{ℕ, ◌/◌, cond, List, ◌++◌, eqb}
use Rattle.grammar.specs.Writing.{decimal}
use Rattle.construction.specs.Answers.{bytes}

-- 0 where the divisor is 0
abbrev pub quotient_of : ℕ → ℕ → ℕ
quotient_of a b = cond (eqb b 0) 0 (a / b)

-- the steps and seconds at this rate, a second
abbrev pub rate_text : ℕ → ℕ → List ℕ
rate_text rate left = decimal rate ++ (bytes " a second, " ++ (decimal (quotient_of left rate) ++ bytes " s left\n"))

unfoldable pub progress_text : ℕ → ℕ → ℕ → ℕ → List ℕ
progress_text done steps left elapsed =
    decimal done ++ (bytes " of " ++ (decimal steps ++ (bytes " steps, " ++ rate_text (quotient_of done elapsed) left)))
