-- A request by cases
use Prim.Native.Nat.{ℕ}
use mathlib.Core.Path.{◌≡◌}
use mathlib.Core.Bool.{true, false}
use lib.Dec.{ltb}
use Rattle.construction.proofs.Basics.{on_test}
use Rattle.allowance.specs.Allowing.{has_allowance, spend}
use Rattle.allowance.specs.Requests.{Kind, Request, Outcome, Machines, Answered, kept, acted, request}

module _ {S R A : Type 0} (k : Kind S R A) (x : Machines S) (m : ℕ) (r : R) where
  -- the machine is there
  abbrev pub There : Type 0
  There = ltb m x.allowance.count ≡ true

  -- the machine itself takes the request as a step
  abbrev pub Steps : Type 0
  Steps = k.is_step r (k.act (x.states m) r).answer ≡ true

  abbrev pub StepsNot : Type 0
  StepsNot = k.is_step r (k.act (x.states m) r).answer ≡ false

  abbrev pub Allowed : Type 0
  Allowed = has_allowance x.allowance m ≡ true

  abbrev pub AllowedNot : Type 0
  AllowedNot = has_allowance x.allowance m ≡ false

  -- what the machine itself does not take as a step is answered by the machine, whatever is left of the allowance, which stays: 19 is 'tested last'
  pub own_first : There → StepsNot → request k x (Request.To m r) ≡ acted x m (k.act (x.states m) r) x.allowance
  unfolding request
  own_first t s = rw (t, s)

  pub on_request {κ} :
      (P : Answered S A → Type κ) →
      (ltb m x.allowance.count ≡ false → P (kept x Outcome.NoMachine)) →
      (There → Steps → AllowedNot → P (kept x Outcome.NoAllowance)) →
      (There → Steps → Allowed → P (acted x m (k.act (x.states m) r) (spend x.allowance m))) →
      (There → StepsNot → P (acted x m (k.act (x.states m) r) x.allowance)) →
      P (request k x (Request.To m r))
  unfolding request
  on_request P absent stopped spent free =
      on_test P (ltb m x.allowance.count)
      (λ t. on_test P (k.is_step r (k.act (x.states m) r).answer)
      (λ s. on_test P (has_allowance x.allowance m) (spent t s) (stopped t s)) (free t)) absent
