-- What the program tells on standard error while it lists (docs/FORMATS.md): how many of the pieces, each of which begins another way, are done, and in
-- how many seconds.
use Rattle.std.specs.Prelude.{ℕ, List, ◌++◌}
use Rattle.grammar.specs.Writing.{decimal}
use Rattle.construction.specs.Answers.{bytes}

unfoldable pub progress_text : ℕ → ℕ → ℕ → List ℕ
progress_text done pieces elapsed =
    bytes "listed " ++ (decimal done ++ (bytes " of " ++ (decimal pieces ++ (bytes " beginnings of schedules, " ++ (decimal elapsed ++ bytes " s\n")))))
