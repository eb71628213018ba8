-- Helping (lines H1 to H36): the operation is simulated on the dictionary as far as it goes.
use Rattle.std.specs.Prelude.{ℕ, zero, suc, cond, List, [], ◌∷◌}
use Rattle.construction.specs.Types.{Words, Program, Dictionary, Simulation, Ended, Faulted, Lacks, Simulated}
use Rattle.construction.specs.Instructions.{next_effect, faulted}
use Rattle.construction.specs.Effects.{Store, touched, execute, on_executed}
use Rattle.construction.specs.Dictionary.{find, has, value_at, assign}

abbrev pub ended : Simulation → Dictionary → Simulated
ended s d = record { pause = Ended; simulation = s; dictionary = d }

abbrev pub faults : Simulation → Dictionary → Simulated
faults s d = record { pause = Faulted; simulation = faulted s; dictionary = d }

abbrev pub lacks : ℕ → Simulation → Dictionary → Simulated
lacks v s d = record { pause = Lacks v; simulation = s; dictionary = d }

-- line H27: the value of a variable; line H28: the dictionary with what is stored
abbrev pub note_of : Dictionary → ℕ → ℕ
note_of d v = value_at d (find d v)

abbrev pub with_notes : Dictionary → List Store → Dictionary
with_notes d [] = d
with_notes d (x ∷ l) = with_notes (assign d (find d x.variable) x.value) l

-- lines H20 and H26: the first of these variables that is not noted, or none
abbrev pub on_lacking {ℓ} : {A : Type ℓ} → Dictionary → List ℕ → (ℕ → A) → A → A
on_lacking d [] lacking all = all
on_lacking d (v ∷ l) lacking all = cond (has d v) (on_lacking d l lacking all) (lacking v)

-- lines H7 and H20 to H30: at most `fuel` instructions. One that lacks a variable is executed again from its start once that is noted.
module _ (n : ℕ) (program : Program) (inputs : Words) where
  unfoldable pub simulate_from : ℕ → Simulation → Dictionary → Simulated
  simulate_from zero s d = ended s d
  simulate_from (suc fuel) s d =
      let e = next_effect n program inputs s in
      on_lacking d (touched n (note_of d) e)
      (λ v. lacks v s d)
      (on_executed (execute n (note_of d) s e)
      (ended s d)
      (faults s d)
      (λ t l. simulate_from fuel t (with_notes d l)))

unfoldable pub simulate : ℕ → Program → Words → Simulation → Dictionary → Simulated
simulate n program inputs s d = simulate_from n program inputs 32 s d
