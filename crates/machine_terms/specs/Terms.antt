-- The text `machines.txt` (document 02, order 14; docs/FORMATS.md): `machines,K,T`, then K lines `machine,SHARE,CEILING`, nothing after. It is judged by 1, then
-- line 1 by its form, then 18 where K is not 1 to 4, 'as K says how many lines follow'; then each further line by its form, missing and left over as in a card
-- text; then 18 for T, shares and ceilings. Numbers have any length and count as at most 1,000,000,000,000,000,001 (crate grammar): a larger share is above T
-- as it is, and a larger ceiling is as good as no ceiling (proofs/Ceilings).
use Rattle.std.specs.Prelude.{ℕ, zero, suc, ◌+◌, cond, ◌||◌, List, [], ◌∷◌, length, set, replicate, ltb, Option, Some, None, Result, Ok, Err}
use Rattle.grammar.specs.declared.Found.{Found}
use Rattle.grammar.specs.Reading.{found, with_found, field, has_word}
use Rattle.construction.specs.declared.{answers.Refusal.Refusal}
use Rattle.construction.specs.declared.answers.Refusal.TheVariants as refusals
use Rattle.construction.specs.Types.{told_at}
use Rattle.allowance.specs.declared.{Quota.Quota, Allowance.Allowance}
use Rattle.allowance.specs.Allowing.{quota_of}
use Rattle.allowance.specs.Opening.{allowance_from, opened_as}
use Rattle.machine_terms.specs.declared.{Pair.Pair, Terms.Terms}

-- two numbers, parted by a comma and ended by byte 10
unfoldable pub pair : List ℕ → ℕ → Option (Found Pair)
pair t at =
    with_found (field t 44 at) (λ a.
    with_found (field t 10 a.next) (λ b.
    Some (found (record { a = a.value; b = b.value }) b.next)))

-- a line of a word and two numbers
unfoldable pub line : List ℕ → ℕ → List ℕ → Option (Found Pair)
line t at w = cond (has_word t at w) (pair t (at + length w)) None

-- `machines,` and `machine,`
abbrev pub machines_word : List ℕ
machines_word = 109 ∷ 97 ∷ 99 ∷ 104 ∷ 105 ∷ 110 ∷ 101 ∷ 115 ∷ 44 ∷ []

abbrev pub machine_word : List ℕ
machine_word = 109 ∷ 97 ∷ 99 ∷ 104 ∷ 105 ∷ 110 ∷ 101 ∷ 44 ∷ []

-- what the lines of machines say, or the number of the first line that is malformed or left over
abbrev pub Quotas : Type 0
Quotas = Result (List Quota) ℕ

abbrev pub with_pair : Option (Found Pair) → ℕ → (Found Pair → Quotas) → Quotas
with_pair (Some x) line go = go x
with_pair None line go = Err line

-- the lines of n machines, from that of machine k on, which is line k + 2 and begins at a place; then nothing may follow
unfoldable pub quotas_from : List ℕ → ℕ → ℕ → ℕ → List Quota → Quotas
quotas_from t zero k at l = cond (ltb at (length t)) (Err (k + 2)) (Ok l)
quotas_from t (suc n) k at l =
    with_pair (line t at machine_word) (k + 2) (λ x. quotas_from t n (suc k) x.next (set l k (quota_of x.value.a x.value.b)))

unfoldable pub quotas_read : List ℕ → ℕ → ℕ → Quotas
quotas_read t at count = quotas_from t count 0 at (replicate 4 (quota_of 0 0))

-- 'which leaves no machines'
unfoldable pub refused : Refusal → ℕ → Terms
refused why n = record { allowance = allowance_from 0 0 (replicate 4 (quota_of 0 0)); verdict = Err (told_at why n) }

-- what opening answers
unfoldable pub judged_as : Result Allowance Refusal → Terms
judged_as (Ok a) = record { allowance = a; verdict = Ok tt }
judged_as (Err why) = refused why 0

abbrev pub with_quotas : ℕ → ℕ → Quotas → Terms
with_quotas count steps (Ok quotas) = judged_as (opened_as count steps quotas)
with_quotas count steps (Err n) = refused refusals.Malformed n

abbrev pub with_head : List ℕ → Option (Found Pair) → Terms
with_head t (Some x) =
    let v = x.value in
    cond (ltb v.a 1 || ltb 4 v.a) (refused refusals.BadTerms 0) (with_quotas v.a v.b (quotas_read t x.next v.a))
with_head t None = refused refusals.Malformed 1

unfoldable pub terms : List ℕ → Terms
terms t = cond (ltb 16384 (length t)) (refused refusals.TooLong 0) (with_head t (line t 0 machines_word))
