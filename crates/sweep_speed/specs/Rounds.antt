-- A schedule run again and again, as sweep_speed times it: the counts, the block and the loan after so many rounds.
use Rattle.std.specs.Prelude.{ℕ, zero, suc, ◌≡◌, List}
use Rattle.lent_sweep.specs.declared.Counts.{Counts}
use Rattle.lent_sweep.specs.Sweeps.{Sweep, start, swept}
use Rattle.sweeping.specs.Pieces.{added}

-- one round more
abbrev pub one_round : List ℕ → List ℕ → Sweep → Sweep
one_round calls schedule s =
    let r = swept calls (start s.block s.loan) schedule in
    record { block = r.block; loan = r.loan; counts = added s.counts r.counts }

unfoldable pub rounds : ℕ → List ℕ → List ℕ → Sweep → Sweep
rounds zero calls schedule s = s
rounds (suc n) calls schedule s = rounds n calls schedule (one_round calls schedule s)

pub record Repeats (calls schedule : List ℕ) (n : ℕ) (b l : List ℕ) (r : Counts) (b' l' : List ℕ) : Type 0 where
  pub same : ◌≡◌ {A = Sweep} (record { block = b'; loan = l'; counts = r }) (rounds n calls schedule (start b l))
