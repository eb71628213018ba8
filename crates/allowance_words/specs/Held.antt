-- The words hold the allowance from request to request: what is read from them after a request is what the request left. So machines whose allowance
-- stands in words of a caller answer as those of order 14 do.
use Rattle.std.specs.Prelude.{ℕ, ◌≤◌, ◌≡◌, List, [], ◌∷◌, length}
use Rattle.allowance.specs.Opening.{allowance_from}
use Rattle.allowance.specs.Requests.{Kind, Request, Machines, Logged, request, after, log}
use Rattle.allowance_words.specs.Words.{allowance_in, with_allowance, terms_in}

-- machines whose allowance stands in words
pub record Lent (S : Type 0) : Type 0 where
  pub words : List ℕ
  pub states : ℕ → S

abbrev pub machines_of : {S : Type 0} → Lent S → Machines S
machines_of x = record { allowance = allowance_in x.words; states = x.states }

-- a request to them: the allowance is read, and the one after the request is stored
abbrev pub lent_after : {S R A : Type 0} → Kind S R A → Lent S → Request R → Lent S
lent_after k x q =
    let y = (request k (machines_of x) q).machines in
    record { words = with_allowance x.words y.allowance; states = y.states }

-- a list of requests: the machines afterwards, and what each request got
unfoldable pub after_all : {S R A : Type 0} → Kind S R A → Lent S → List (Request R) → Lent S
after_all k x [] = x
after_all k x (q ∷ qs) = after_all k (lent_after k x q) qs

unfoldable pub log_all : {S R A : Type 0} → Kind S R A → Lent S → List (Request R) → List (Logged R A)
log_all k x [] = []
log_all k x (q ∷ qs) = record { request = q; outcome = (request k (machines_of x) q).outcome } ∷ log_all k (lent_after k x q) qs

pub record Held : Type 1 where
  pub opened :
      (w : List ℕ) (count steps : ℕ) (t : List ℕ) → 14 ≤ length w
      → allowance_in (with_allowance w (allowance_from count steps (terms_in t))) ≡ allowance_from count steps (terms_in t)
  pub machines : {S R A : Type 0} (k : Kind S R A) (x : Lent S) (qs : List (Request R)) → machines_of (after_all k x qs) ≡ after k (machines_of x) qs
  pub answers : {S R A : Type 0} (k : Kind S R A) (x : Lent S) (qs : List (Request R)) → log_all k x qs ≡ log k (machines_of x) qs
