-- The run over a schedule, as far as it has come.
use Prim.Native.Nat.{ℕ, ◌+◌, ◌<◌, ◌≤◌}
use mathlib.Core.Path.{◌≡◌, refl, sym, ◌∙◌, ap}
use mathlib.Core.List.{List, [], ◌∷◌}
use native.Mathlib.Numerals.{add-one}
use native.Mathlib.Omega.{arith}
use lib.ListN.{length, get_or, drop, drop_of_length-le}
use lib.Seq.{drop-cons}
use Rattle.loan.specs.Loans.{loan_words}
use Rattle.lent_steps.specs.Steps.{answer_to}
use Rattle.lent_sweep.specs.declared.Counts.{Counts}
use Rattle.lent_sweep.specs.Sweeps.{none, Sweep, start, sweep_step, swept, Sweeps, Turns}
use Rattle.lent_sweep.proofs.Steps.{short_unmoved, step_sizes, Tallied, tallied_more}

-- with a loan too short no step is accepted
pub short_swept : (calls : List ℕ) (b l : List ℕ) (c : Counts) → length l < loan_words b → (schedule : List ℕ) →
    swept calls (record { block = b; loan = l; counts = c }) schedule ≡ record { block = b; loan = l; counts = c }
unfolding swept
short_swept calls b l c h [] = refl
short_swept calls b l c h (i ∷ is) = rw (short_unmoved calls b l c i h) (short_swept calls b l c h is)

pub sweeps_short : (calls : List ℕ) (b l schedule : List ℕ) {r : Counts} → length l < loan_words b → r ≡ none → Sweeps calls b l schedule r b l
sweeps_short calls b l schedule h e =
    let z = short_swept calls b l none h schedule in
    record { counts = e ∙ sym (ap (λ (s : Sweep). s.counts) z); block = sym (ap (λ (s : Sweep). s.block) z); loan = sym (ap (λ (s : Sweep). s.loan) z) }

-- the first k steps are made
pub record SweptTo (calls : List ℕ) (b₀ l₀ schedule : List ℕ) (k : ℕ) (b l : List ℕ) (c : Counts) : Type 0 where
  pub rest : swept calls (start b₀ l₀) schedule ≡ swept calls (record { block = b; loan = l; counts = c }) (drop k schedule)
  pub lent : loan_words b ≤ length l
  pub block : length b ≡ length b₀
  pub loan : length l ≡ length l₀
  pub few : Tallied k c
  pub inside : k ≤ length schedule

module _ {calls : List ℕ} {b₀ l₀ schedule : List ℕ} where
  pub swept_none : {c : Counts} → c ≡ none → loan_words b₀ ≤ length l₀ → SweptTo calls b₀ l₀ schedule 0 b₀ l₀ c
  swept_none e h =
      record {
        rest = rw e refl;
        lent = h;
        block = refl;
        loan = refl;
        few = rw e (record { accepted = omega arith; returned = omega arith });
        inside =
            omega arith;
      }

  module _ {k : ℕ} {b l : List ℕ} {c : Counts} (h : SweptTo calls b₀ l₀ schedule k b l c) where
    pub swept_on :
        {i : ℕ} {r : Counts} {b' l' : List ℕ} → k < length schedule → i ≡ get_or schedule k 0 → Turns calls b l c i r b' l' →
        SweptTo calls b₀ l₀ schedule (k + 1) b' l' r
    unfolding swept
    swept_on {i} {r} {b'} {l'} below ei turn =
        let s : Sweep = record { block = b; loan = l; counts = c } in
        let e = turn.same in
        let sizes = step_sizes calls b l c i in
        let block : b' ≡ (sweep_step calls s i).block = ap (λ (z : Sweep). z.block) e in
        let loan : l' ≡ (sweep_step calls s i).loan = ap (λ (z : Sweep). z.loan) e in
        let counts : r ≡ (sweep_step calls s i).counts = ap (λ (z : Sweep). z.counts) e in
        record {
          rest = h.rest ∙ rw (add-one, drop-cons schedule k 0 below, ← ei, e);
          lent = rw (block, loan) (rw (sizes.0, sizes.2) h.lent);
          block = rw block (sizes.1 ∙ h.block);
          loan = rw loan (sizes.2 ∙ h.loan);
          few = rw counts (tallied_more (answer_to b l i) h.few);
          inside = omega arith;
        }

    pub swept_all : length schedule ≤ k → Sweeps calls b₀ l₀ schedule c b l
    unfolding swept
    swept_all done =
        let z : swept calls (start b₀ l₀) schedule ≡ record { block = b; loan = l; counts = c } = rw (drop_of_length-le schedule done) at h.rest in
        record { counts = sym (ap (λ (s : Sweep). s.counts) z); block = sym (ap (λ (s : Sweep). s.block) z); loan = sym (ap (λ (s : Sweep). s.loan) z) }
