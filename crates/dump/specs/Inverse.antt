-- Writer and reader are inverse (document 02, order 7: 'From the dump it gives the looked value of every variable after every step; a step past the last
-- gets the last values').
use Rattle.std.specs.Prelude.{ℕ, zero, suc, ◌≤◌, ◌<◌, min, ◌≡◌, List, [], ◌∷◌, length, get_or, Ok}
use Rattle.dump.specs.declared.Readings.{Readings}
use Rattle.dump.specs.Dump.{dump}
use Rattle.dump.specs.Reading.{readings}

-- what a history can be: at most 64 variables of 32 bits and 1,000,000,000,000,000,000 steps, and no step without a variable
pub record Fits (n : ℕ) (row : List ℕ) (rows : List (List ℕ)) : Type 0 where
  pub few : n ≤ 64
  pub first : (v : ℕ) → v < n → get_or row v 0 < 4294967296
  pub later : (k v : ℕ) → k < length rows → v < n → get_or (get_or rows k []) v 0 < 4294967296
  pub bounded : length rows ≤ 1000000000000000000
  pub some : n ≡ 0 → length rows ≡ 0

-- the row after a step, and after the last step for every step past it
abbrev pub row_after : List ℕ → List (List ℕ) → ℕ → List ℕ
row_after row rows step = get_or (row ∷ rows) (min step (length rows)) []

-- what a reader gives of a history for a step: how many variables, the last time, and every value; 'values past n .. are 0'
pub record Shows (n : ℕ) (row : List ℕ) (rows : List (List ℕ)) (step : ℕ) (r : Readings) : Type 0 where
  pub verdict : r.verdict ≡ Ok tt
  pub count : r.count ≡ n
  pub last : r.last ≡ length rows
  pub values : (v : ℕ) → v < n → get_or r.values v 0 ≡ get_or (row_after row rows step) v 0
  pub past : (v : ℕ) → n ≤ v → get_or r.values v 0 ≡ 0

-- the history that a reader gives of a text: m rows after k steps
unfoldable pub rows_read : List ℕ → ℕ → ℕ → List (List ℕ)
rows_read t zero k = []
rows_read t (suc m) k = (readings t (suc k)).values ∷ rows_read t m (suc k)

-- a text is the writer's dump of what the reader gives of it: of the number of variables, the last time and the history of values
pub record OneSpelling (t : List ℕ) (r : Readings) : Type 0 where
  pub text : t ≡ dump r.count (readings t 0).values (rows_read t r.last 0)
  pub fits : Fits r.count (readings t 0).values (rows_read t r.last 0)
