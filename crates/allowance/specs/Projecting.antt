-- One machine alone, and what the requests to all machines have of it
use Rattle.std.specs.Prelude.{ℕ, cond, List, [], ◌∷◌, eqb}
use Rattle.allowance.specs.Requests.{Kind, Request, Outcome, Logged}

-- a machine alone with a list of its requests: its answers, and its state afterwards
unfoldable pub answers_alone : {S R A : Type 0} → Kind S R A → S → List R → List A
answers_alone k s [] = []
answers_alone k s (r ∷ rs) = (k.act s r).answer ∷ answers_alone k (k.act s r).state rs

unfoldable pub state_alone : {S R A : Type 0} → Kind S R A → S → List R → S
state_alone k s [] = s
state_alone k s (r ∷ rs) = state_alone k (k.act s r).state rs

-- the requests to machine m, 'less the steps that got 19'
abbrev pub with_request : {R A : Type 0} → ℕ → Request R → Outcome A → List R → List R
with_request m (Request.To j r) (Outcome.Own a) l = cond (eqb j m) (r ∷ l) l
with_request m (Request.To j r) Outcome.NoMachine l = cond (eqb j m) (r ∷ l) l
with_request m (Request.To j r) Outcome.NoAllowance l = l
with_request m (Request.To j r) Outcome.Turned l = cond (eqb j m) (r ∷ l) l
with_request m Request.Turn o l = l

unfoldable pub requests_of : {R A : Type 0} → ℕ → List (Logged R A) → List R
requests_of m [] = []
requests_of m (e ∷ es) = with_request m e.request e.outcome (requests_of m es)

-- the answers that machine m itself gave
abbrev pub with_answer : {R A : Type 0} → ℕ → Request R → Outcome A → List A → List A
with_answer m (Request.To j r) (Outcome.Own a) l = cond (eqb j m) (a ∷ l) l
with_answer m (Request.To j r) Outcome.NoMachine l = l
with_answer m (Request.To j r) Outcome.NoAllowance l = l
with_answer m (Request.To j r) Outcome.Turned l = l
with_answer m Request.Turn o l = l

unfoldable pub answers_of : {R A : Type 0} → ℕ → List (Logged R A) → List A
answers_of m [] = []
answers_of m (e ∷ es) = with_answer m e.request e.outcome (answers_of m es)
