-- What an effect touches and does, given the value of each variable: one definition for the sequential run and for the helper.
use Rattle.std.specs.Prelude.{ℕ, cond, List, [], ◌∷◌, eqb}
use Rattle.construction.specs.Types.{Effect, Simulation}
use Rattle.construction.specs.Instructions.{is_cell, with_register, with_output, skipped}

-- a variable and the value that it takes
pub record Store : Type 0 where
  pub variable : ℕ
  pub value : ℕ

abbrev pub put : ℕ → ℕ → Store
put v x = record { variable = v; value = x }

-- the program ends, ends as a fault, or goes on with what is stored
pub data Executed : Type 0 where
  Ends : Executed
  Faults : Executed
  Goes : Simulation → List Store → Executed

-- the variables that it touches, in sequence: 'Both codes touch variable 0, then the cell' (document 02, order 9)
abbrev pub touched : ℕ → (ℕ → ℕ) → Effect → List ℕ
touched n look Effect.Stop = []
touched n look Effect.Fault = []
touched n look (Effect.Set a x) = []
touched n look (Effect.Load a v) = v ∷ []
touched n look (Effect.Store v x) = v ∷ []
touched n look (Effect.Output a x) = []
touched n look (Effect.Skip c) = []
touched n look (Effect.Allocate a) = 0 ∷ cond (is_cell n (look 0)) (look 0 ∷ []) []
touched n look (Effect.Free c) = 0 ∷ c ∷ []

-- code 13: 'r[a] takes that number; if it is not 0, variable 0 takes what the cell holds and the cell becomes 0'; 'A cell number of n or more ..
-- is a fault'
unfoldable pub allocated : ℕ → (ℕ → ℕ) → Simulation → ℕ → ℕ → Executed
allocated n look s a c =
    cond (is_cell n c) (Executed.Goes (with_register s a c) (put 0 (look c) ∷ put c 0 ∷ []))
    (cond (eqb c 0) (Executed.Goes (with_register s a 0) []) Executed.Faults)

-- once it has touched them
abbrev pub execute : ℕ → (ℕ → ℕ) → Simulation → Effect → Executed
execute n look s Effect.Stop = Executed.Ends
execute n look s Effect.Fault = Executed.Faults
execute n look s (Effect.Set a x) = Executed.Goes (with_register s a x) []
execute n look s (Effect.Load a v) = Executed.Goes (with_register s a (look v)) []
execute n look s (Effect.Store v x) = Executed.Goes (skipped s 0) (put v x ∷ [])
execute n look s (Effect.Output a x) = Executed.Goes (with_output s a x) []
execute n look s (Effect.Skip c) = Executed.Goes (skipped s c) []
execute n look s (Effect.Allocate a) = allocated n look s a (look 0)
-- code 14: 'the cell numbered r[a] takes variable 0, and variable 0 takes r[a]'
execute n look s (Effect.Free c) = Executed.Goes (skipped s 0) (put c (look 0) ∷ put 0 c ∷ [])

-- by cases on what was executed
abbrev pub on_executed {ℓ} : {A : Type ℓ} → Executed → A → A → (Simulation → List Store → A) → A
on_executed Executed.Ends ends faults goes = ends
on_executed Executed.Faults ends faults goes = faults
on_executed (Executed.Goes s l) ends faults goes = goes s l
