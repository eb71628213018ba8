-- The log of a run (document 02, order 4): 'The course log sorts operations by hand-written times and gets ties. .. Sorting the log by it', the gate
-- number of a done answer, 'yields the bench order.' Lists stand newest first, as an observer's notes do.
use Rattle.std.specs.Prelude.{ℕ, ◌<◌, ◌≡◌, cond, List, [], ◌∷◌, ◌++◌, ltb}
use Rattle.construction.specs.History.{Finish, Return, Response, History}
use Rattle.construction.specs.Linearizability.{has_returned}

-- the log: a line for each done answer, `fault` among them, with its operation, its number and what it yields
abbrev pub logged : ℕ → Return → List Finish → List Finish
logged k (Return.done number y) log = record { operation = k; gate = number; yields = y } ∷ log
logged k Return.exited log = log

unfoldable pub log_of : List Response → List Finish
log_of [] = []
log_of (r ∷ rs) = logged r.operation r.return (log_of rs)

-- a list in any sequence: its first element stands somewhere, and around it the others do in any sequence
pub data Permuted {A : Type 0} : List A → List A → Type 0 where
  none : Permuted [] []
  placed : {x : A} {l : List A} (front back : List A) → Permuted l (front ++ back) → Permuted (x ∷ l) (front ++ (x ∷ back))

-- sorting by number, the greatest first: each line is put before the first one that is not greater
unfoldable pub insert_by_number : Finish → List Finish → List Finish
insert_by_number f [] = f ∷ []
insert_by_number f (g ∷ gs) = cond (ltb f.gate g.gate) (g ∷ insert_by_number f gs) (f ∷ g ∷ gs)

unfoldable pub sorted : List Finish → List Finish
sorted [] = []
sorted (f ∷ fs) = insert_by_number f (sorted fs)

-- no ties: each number is below every one before it
abbrev pub Below : ℕ → List Finish → Type 0
Below n [] = Unit
Below n (f ∷ fs) = (f.gate < n) × Below n fs

abbrev pub Falling : List Finish → Type 0
Falling [] = Unit
Falling (f ∷ fs) = Below f.gate fs × Falling fs

-- the order of the bench, restricted to operations that have returned
unfoldable pub returned_of : List Response → List Finish → List Finish
returned_of rs [] = []
returned_of rs (f ∷ fs) = cond (has_returned f.operation rs) (f ∷ returned_of rs fs) (returned_of rs fs)

-- a log, sorted, has no ties and is that order
pub record SortsToOrder (s : History) (log : List Finish) : Type 0 where
  pub untied : Falling (sorted log)
  pub order : sorted log ≡ returned_of s.returns s.order
