-- The allowance (document 02, order 14: T, and of each machine share, ceiling and steps used) in 14 words of the caller: T, the number of machines, then
-- share, ceiling and steps used of machines 0 to 3. Fewer words hold no machines.
use Rattle.std.specs.Prelude.{ℕ, ◌+◌, cond, List, [], ◌∷◌, ◌++◌, ltb, length}
use Rattle.codes.specs.Parts.{word_at, stores}
use Rattle.allowance.specs.declared.{Quota.Quota, Allowance.Allowance}
use Rattle.allowance.specs.Allowing.{empty, quota_of, no_machines, quota_at}

-- the quota that stands at a place
abbrev pub quota_in : List ℕ → ℕ → Quota
quota_in w at = record { share = word_at w at; ceiling = word_at w (at + 1); used = word_at w (at + 2) }

unfoldable pub allowance_in : List ℕ → Allowance
allowance_in w =
    cond (ltb (length w) 14) no_machines
    (record { steps = word_at w 0; count = word_at w 1; quotas = quota_in w 2 ∷ quota_in w 5 ∷ quota_in w 8 ∷ quota_in w 11 ∷ [] })

abbrev pub quota_words : Quota → List ℕ
quota_words q = q.share ∷ q.ceiling ∷ q.used ∷ []

abbrev pub words_of : Allowance → List ℕ
words_of a =
    a.steps
    ∷ a.count
    ∷ (quota_words (quota_at a 0) ++ (quota_words (quota_at a 1) ++ (quota_words (quota_at a 2) ++ quota_words (quota_at a 3))))

-- the words with an allowance in them; too few are left as they are
unfoldable pub with_allowance : List ℕ → Allowance → List ℕ
with_allowance w a = cond (ltb (length w) 14) w (stores w 0 (words_of a))

-- the terms of opening, share and ceiling of each machine: two words each; where both are not there, those of no machine
abbrev pub term_at : List ℕ → ℕ → Quota
term_at t at = cond (ltb (at + 1) (length t)) (quota_of (word_at t at) (word_at t (at + 1))) empty

unfoldable pub terms_in : List ℕ → List Quota
terms_in t = term_at t 0 ∷ term_at t 2 ∷ term_at t 4 ∷ term_at t 6 ∷ []
