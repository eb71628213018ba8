-- The accepted steps since the last turn, counted from what was asked and answered alone
use Rattle.std.specs.Prelude.{ℕ, suc, ◌+◌, Bool, cond, ◌&&◌, List, [], ◌∷◌, eqb}
use Rattle.allowance.specs.Types.{Quota}
use Rattle.allowance.specs.Requests.{Kind, Request, Outcome, Logged}

-- n and one more if a test holds
abbrev pub counted : Bool → ℕ → ℕ
counted b n = cond b (n + 1) n

-- the accepted steps of machine m
abbrev pub used_by : {S R A : Type 0} → Kind S R A → ℕ → ℕ → Request R → Outcome A → ℕ
used_by k m n (Request.To j r) (Outcome.Own a) = counted (k.is_step r a && eqb j m) n
used_by k m n (Request.To j r) Outcome.NoMachine = n
used_by k m n (Request.To j r) Outcome.NoAllowance = n
used_by k m n (Request.To j r) Outcome.Turned = n
used_by k m n Request.Turn o = 0

unfoldable pub steps_of : {S R A : Type 0} → Kind S R A → ℕ → ℕ → List (Logged R A) → ℕ
steps_of k m n [] = n
steps_of k m n (e ∷ es) = steps_of k m (used_by k m n e.request e.outcome) es

-- the accepted steps of all machines
abbrev pub used_by_all : {S R A : Type 0} → Kind S R A → ℕ → Request R → Outcome A → ℕ
used_by_all k n (Request.To j r) (Outcome.Own a) = counted (k.is_step r a) n
used_by_all k n (Request.To j r) Outcome.NoMachine = n
used_by_all k n (Request.To j r) Outcome.NoAllowance = n
used_by_all k n (Request.To j r) Outcome.Turned = n
used_by_all k n Request.Turn o = 0

unfoldable pub steps_of_all : {S R A : Type 0} → Kind S R A → ℕ → List (Logged R A) → ℕ
steps_of_all k n [] = n
steps_of_all k n (e ∷ es) = steps_of_all k (used_by_all k n e.request e.outcome) es

-- quotas, numbered from i, with these steps used
unfoldable pub with_used : (ℕ → ℕ) → ℕ → List Quota → List Quota
with_used f i [] = []
with_used f i (q ∷ qs) = record { share = q.share; ceiling = q.ceiling; used = f i } ∷ with_used f (suc i) qs
