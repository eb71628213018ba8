-- The dump of a run read back (document 02, order 7: 'From the dump it gives the looked value of every variable after every step; a step past the last gets
-- the last values').
use Rattle.std.specs.Prelude.{ℕ, ◌≤◌, ◌<◌, ◌≡◌, List, ◌++◌, get_or, Ok}
use Rattle.construction.specs.declared.{card.Card.Card, answers.Answer.Answer}
use Rattle.construction.specs.Requests.{read}
use Rattle.construction.specs.History.{Entry, run}
use Rattle.dump.specs.Reading.{readings}
use Rattle.dump.specs.Histories.{accepted_steps, dump_of}

-- The reader takes the dump of a run and gives, for every step asked for, the number of variables and the last time; and of every variable what a read
-- shows after that many accepted steps, at every moment of the run, and at its end for every step past the last.
pub record ReadsBack (o : Card) (es : List Entry) : Type 0 where
  pub taken : (step : ℕ) → (readings (dump_of o es) step).verdict ≡ Ok tt
  pub count : (step : ℕ) → (readings (dump_of o es) step).count ≡ o.variable_count
  pub last : (step : ℕ) → (readings (dump_of o es) step).last ≡ accepted_steps o es
  pub shown :
      (es₁ es₂ : List Entry) → es ≡ es₁ ++ es₂ → (v : ℕ) → v < o.variable_count →
      (read (run o es₁).card v).answer ≡ Answer.Value (get_or (readings (dump_of o es) (accepted_steps o es₁)).values v 0)
  pub past :
      (step : ℕ) → accepted_steps o es ≤ step → (v : ℕ) → v < o.variable_count →
      (read (run o es).card v).answer ≡ Answer.Value (get_or (readings (dump_of o es) step).values v 0)
  -- the card counts its accepted steps as the dump does
  pub steps : (run o es).card.steps ≡ accepted_steps o es
