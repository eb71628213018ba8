-- One round more, and the last.
use Prim.Native.Nat.{ℕ, suc, ◌+◌, ◌-◌, ◌<◌, ◌≤◌}
use mathlib.Core.Path.{◌≡◌, refl, sym, ◌∙◌, ap}
use mathlib.Core.List.{List}
use native.Mathlib.Omega.{arith}
use Rattle.lent_sweep.specs.declared.Counts.{Counts}
use Rattle.lent_sweep.specs.Sweeps.{none, Sweep, start, swept, Sweeps}
use Rattle.sweeping.specs.Pieces.{added}
use Rattle.sweep_speed.specs.Rounds.{one_round, rounds, Repeats}

-- k rounds of n are made
pub record RoundsTo (calls schedule : List ℕ) (n : ℕ) (b₀ l₀ : List ℕ) (k : ℕ) (s : Sweep) : Type 0 where
  pub rest : rounds n calls schedule (start b₀ l₀) ≡ rounds (n - k) calls schedule s
  pub inside : k ≤ n

module _ {calls schedule : List ℕ} {n : ℕ} {b₀ l₀ : List ℕ} where
  pub rounds_none : {c : Counts} → c ≡ none → RoundsTo calls schedule n b₀ l₀ 0 (record { block = b₀; loan = l₀; counts = c })
  rounds_none e = let z : n - 0 ≡ n = omega arith in record { rest = rw (e, z) refl; inside = omega arith }

  module _ {k : ℕ} {b l : List ℕ} {c : Counts} (h : RoundsTo calls schedule n b₀ l₀ k (record { block = b; loan = l; counts = c })) where
    pub rounds_on :
        {d r : Counts} {b' l' : List ℕ} → k < n → Sweeps calls b l schedule d b' l' → r ≡ added c d →
        RoundsTo calls schedule n b₀ l₀ (k + 1) (record { block = b'; loan = l'; counts = r })
    unfolding rounds
    rounds_on {d} {r} {b'} {l'} below s er =
        let e : n - k ≡ suc (n - (k + 1)) = omega arith in
        let block = s.block in
        let loan = s.loan in
        let counts : r ≡ added c (swept calls (start b l) schedule).counts = rw s.counts at er in
        let next : one_round calls schedule (record { block = b; loan = l; counts = c }) ≡ record { block = b'; loan = l'; counts = r } =
        sym (λ j. record { block = block j; loan = loan j; counts = counts j }) in
        record { rest = rw e at h.rest ∙ ap (λ (z : Sweep). rounds (n - (k + 1)) calls schedule z) next; inside = omega arith }

    pub rounds_all : n ≤ k → Repeats calls schedule n b₀ l₀ c b l
    unfolding rounds
    rounds_all done = let e : n - k ≡ 0 = omega arith in record { same = sym (rw e at h.rest) }
