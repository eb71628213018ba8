-- Requests to machines that share a processor (document 02, order 14). What a machine is, its requests and its answers are parameters.
use Rattle.std.specs.Prelude.{ℕ, Bool, cond, List, [], ◌∷◌, eqb, ltb}
use Rattle.allowance.specs.Types.{Allowance}
use Rattle.allowance.specs.Allowing.{has_allowance, spend, turn}

-- a machine after a request, and its answer
pub record Acted (S A : Type 0) : Type 0 where
  pub state : S
  pub answer : A

-- a kind of machines, by their states, requests and answers: what a request does, and whether a request that got this answer is an accepted step
pub record Kind (S R A : Type 0) : Type 0 where
  pub act : S → R → Acted S A
  pub is_step : R → A → Bool

-- a request to a machine by its number, or a new turn
pub data Request (R : Type 0) : Type 0 where
  To : (machine : ℕ) → R → Request R
  Turn : Request R

-- the machine's own answer; refusal 5 for a machine not there; refusal 19 for a step without allowance; a turn is taken
pub data Outcome (A : Type 0) : Type 0 where
  Own : A → Outcome A
  NoMachine : Outcome A
  NoAllowance : Outcome A
  Turned : Outcome A

-- the machines: what they share, and the state of each by its number
pub record Machines (S : Type 0) : Type 0 where
  pub allowance : Allowance
  pub states : ℕ → S

pub record Answered (S A : Type 0) : Type 0 where
  pub machines : Machines S
  pub outcome : Outcome A

abbrev pub replaced : {S : Type 0} → (ℕ → S) → ℕ → S → ℕ → S
replaced f j s m = cond (eqb j m) s (f m)

-- a request that leaves everything as it was
abbrev pub kept : {S A : Type 0} → Machines S → Outcome A → Answered S A
kept x o = record { machines = x; outcome = o }

-- machine m acts, with this allowance afterwards
abbrev pub acted : {S A : Type 0} → Machines S → ℕ → Acted S A → Allowance → Answered S A
acted x m d a =
    record { machines = record { allowance = a; states = replaced x.states m d.state }; outcome = Outcome.Own d.answer }

-- 'a step without allowance gets 19, tested last': after what the machine itself refuses
abbrev pub judged : {S A : Type 0} → Machines S → ℕ → Acted S A → Bool → Answered S A
judged x m d step =
    cond step
    (cond (has_allowance x.allowance m) (acted x m d (spend x.allowance m)) (kept x Outcome.NoAllowance))
    (acted x m d x.allowance)

-- 'a machine not there is 5'
unfoldable pub request : {S R A : Type 0} → Kind S R A → Machines S → Request R → Answered S A
request k x (Request.To m r) =
    let d = k.act (x.states m) r in
    cond (ltb m x.allowance.count) (judged x m d (k.is_step r d.answer)) (kept x Outcome.NoMachine)
request k x Request.Turn =
    record { machines = record { allowance = turn x.allowance; states = x.states }; outcome = Outcome.Turned }

-- the machines after a list of requests
unfoldable pub after : {S R A : Type 0} → Kind S R A → Machines S → List (Request R) → Machines S
after k x [] = x
after k x (r ∷ rs) = after k (request k x r).machines rs

-- a request and what it got
pub record Logged (R A : Type 0) : Type 0 where
  pub request : Request R
  pub outcome : Outcome A

unfoldable pub log : {S R A : Type 0} → Kind S R A → Machines S → List (Request R) → List (Logged R A)
log k x [] = []
log k x (r ∷ rs) = record { request = r; outcome = (request k x r).outcome } ∷ log k (request k x r).machines rs
