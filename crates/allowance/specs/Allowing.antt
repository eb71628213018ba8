-- The allowance of steps in a turn (document 02, order 14)
use Rattle.std.specs.Prelude.{ℕ, ◌+◌, ◌-◌, Option, Some, None, Bool, cond, ◌&&◌, ◌||◌, List, [], ◌∷◌, map, get_or, set, ltb, leb}
use Rattle.allowance.specs.Types.{Quota, Allowance}

-- the quota of a place where no machine is
abbrev pub empty : Quota
empty = record { share = 0; ceiling = 0; used = 0 }

-- one with nothing used
abbrev pub quota_of : ℕ → ℕ → Quota
quota_of share ceiling = record { share = share; ceiling = ceiling; used = 0 }

-- the allowance of no machines
abbrev pub no_machines : Allowance
no_machines = record { steps = 0; count = 0; quotas = empty ∷ empty ∷ empty ∷ empty ∷ [] }

abbrev pub quota_at : Allowance → ℕ → Quota
quota_at a m = get_or a.quotas m empty

-- 'the larger of share and steps used'
abbrev pub larger : Quota → ℕ
larger q = cond (ltb q.share q.used) q.used q.share

-- 'the sum, over all machines, of the larger of share and steps used': the steps of a turn that are used or that a share keeps back
unfoldable pub reserved : List Quota → ℕ
reserved [] = 0
reserved (q ∷ qs) = larger q + reserved qs

-- the steps used of all machines
unfoldable pub used_sum : List Quota → ℕ
used_sum [] = 0
used_sum (q ∷ qs) = q.used + used_sum qs

-- 'Within its share a machine's step always has its allowance. Beyond it and below the ceiling it is allowed when T exceeds the sum'
abbrev pub is_allowed : Quota → ℕ → ℕ → Bool
is_allowed q sum steps = ltb q.used q.share || (ltb q.used q.ceiling && ltb sum steps)

unfoldable pub has_allowance : Allowance → ℕ → Bool
has_allowance a m = is_allowed (quota_at a m) (reserved a.quotas) a.steps

-- one step more is used
abbrev pub with_step : Quota → Quota
with_step q = record { share = q.share; ceiling = q.ceiling; used = q.used + 1 }

unfoldable pub spend : Allowance → ℕ → Allowance
spend a m = record { steps = a.steps; count = a.count; quotas = set a.quotas m (with_step (quota_at a m)) }

-- a step: used if it has its allowance
abbrev pub allowed : Allowance → ℕ → Option Allowance
allowed a m = cond (has_allowance a m) (Some (spend a m)) None

-- 'A new turn sets the steps used to 0'
abbrev pub unused : Quota → Quota
unused q = record { share = q.share; ceiling = q.ceiling; used = 0 }

unfoldable pub turn : Allowance → Allowance
turn a = record { steps = a.steps; count = a.count; quotas = map unused a.quotas }

-- what is left of some steps after some numbers are taken off, if they are enough
unfoldable pub total : List ℕ → ℕ
total [] = 0
total (n ∷ ns) = n + total ns

abbrev pub left_of : ℕ → List ℕ → Option ℕ
left_of steps ns = cond (leb (total ns) steps) (Some (steps - total ns)) None
