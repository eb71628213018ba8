-- The requests of one machine: handed to it with its loan as it was left, whatever the others are asked in between
use Prim.Native.Nat.{ℕ, ◌<◌, ◌≤◌}
use mathlib.Core.Path.{◌≡◌, refl, sym, ap, subst, ◌∙◌}
use mathlib.Core.Bool.{Bool, true, false, cond}
use mathlib.Core.Logic.{◌⊎◌, inl, inr}
use mathlib.Core.List.{List, [], ◌∷◌, map}
use native.Mathlib.Omega.{arith}
use lib.Dec.{eqb}
use lib.ListN.{length}
use borrow.Author.Tests.{ltb-false, eqb-true, ne_eqb}
use Rattle.construction.specs.History.{Entry, FitsEntry}
use Rattle.construction.proofs.Basics.{true_or_false}
use Rattle.loan.specs.Loans.{loan_words}
use Rattle.lent_runs.specs.Runs.{Handed, Memory, Reply, AllFit, memory_after, remember, reply_in, replies_in, as_left, handing}
use Rattle.lent_runs.proofs.Handing.{enough, still}
use Rattle.allowance.specs.Requests.{Request, Outcome, Machines, Answered, acted, request, log}
use Rattle.allowance.specs.declared.Allowance.{Allowance}
use Rattle.allowance.specs.Allowing.{spend}
use Rattle.allowance.specs.Projecting.{answers_alone, state_alone, with_request, requests_of}
use Rattle.allowance.proofs.Cases.{on_request}
use Rattle.allowance.proofs.Statements.{request_count}
use Rattle.shared_processor.specs.Requests.{lent_cards, memory_in}
use Rattle.shared_runs.specs.Runs.{Shared, shared_after, standing, handed, handed_all, shared_log, FitsRequest, AllFitRequests}
use Rattle.shared_runs.proofs.Standing.{standing_after, log_first}

abbrev entries : List Handed → List Entry
entries = map (λ (x : Handed). x.entry)

-- one request, on the list of those that follow
module _ (stride : ℕ) (s : Shared) (m : ℕ) (there : m < s.allowance.count) (j : ℕ) (e : Entry) where
  abbrev mine : Memory
  mine = memory_in stride s.blocks s.loans m

  abbrev asked : Handed
  asked = as_left (memory_in stride s.blocks s.loans j) e

  abbrev AsLeft : Answered Memory Reply → Type 0
  AsLeft y =
      (rest : List Handed) → rest ≡ handing (y.machines.states m) (entries rest) →
      with_request m (Request.To j asked) y.outcome rest ≡ handing mine (entries (with_request m (Request.To j asked) y.outcome rest))

  as_left_acted : (a : Allowance) → AsLeft (acted (standing stride s) j (lent_cards.act (memory_in stride s.blocks s.loans j) asked) a)
  unfolding handing
  as_left_acted a rest h = go (true_or_false (eqb j m))
    where
      go :
          (eqb j m ≡ true) ⊎ (eqb j m ≡ false) →
          with_request m (Request.To j asked) (Outcome.Own (reply_in (memory_in stride s.blocks s.loans j).block asked.loan e)) rest
          ≡ handing mine
          (entries (with_request m (Request.To j asked) (Outcome.Own (reply_in (memory_in stride s.blocks s.loans j).block asked.loan e)) rest))
      go (inl p) =
          let same = eqb-true j m p in
          let after : rest ≡ handing (memory_after (memory_in stride s.blocks s.loans j) asked) (entries rest) = rw p at h in
          rw p (ap (λ (l : List Handed). asked ∷ l) after
          ∙ ap (λ (k : ℕ). handing (memory_in stride s.blocks s.loans k) (e ∷ entries rest)) same)
      go (inr p) = let after : rest ≡ handing mine (entries rest) = rw p at h in rw p after

  as_left_lem : AsLeft (request lent_cards (standing stride s) (Request.To j asked))
  as_left_lem =
      on_request lent_cards (standing stride s) j asked AsLeft
      (λ t rest h. let p = ne_eqb j m (λ q. omega (arith, q, ltb-false j s.allowance.count t)) in rw p h) (λ t u v rest h. h)
      (λ t u v. as_left_acted (spend s.allowance j)) (λ t u. as_left_acted s.allowance)

module _ (stride m : ℕ) where
  own_step :
      (s : Shared) (r : Request Entry) → m < s.allowance.count → (rest : List Handed) →
      rest ≡ handing (memory_in stride (shared_after stride s r).blocks (shared_after stride s r).loans m) (entries rest) →
      with_request m (handed stride s r) (request lent_cards (standing stride s) (handed stride s r)).outcome rest
      ≡ handing (memory_in stride s.blocks s.loans m)
      (entries (with_request m (handed stride s r) (request lent_cards (standing stride s) (handed stride s r)).outcome rest))
  own_step s (Request.To j e) there rest h =
      as_left_lem stride s m there j e rest
      (h ∙ ap (λ (x : Machines Memory). handing (x.states m) (entries rest)) (standing_after stride s (Request.To j e)))
  own_step s Request.Turn there rest h = h

  count_after : (s : Shared) (r : Request Entry) → (shared_after stride s r).allowance.count ≡ s.allowance.count
  count_after s r = ap (λ (x : Machines Memory). x.allowance.count) (standing_after stride s r) ∙ request_count lent_cards (standing stride s)
      (handed stride s r)

  -- every list
  pub own_handed :
      (s : Shared) (rs : List (Request Entry)) → m < s.allowance.count →
      requests_of m (shared_log stride s rs) ≡ handing (memory_in stride s.blocks s.loans m) (entries (requests_of m (shared_log stride s rs)))
  unfolding requests_of handed_all log handing
  own_handed s [] there = refl
  own_handed s (r ∷ rs) there =
      let first = ap (requests_of m) (log_first stride s r rs) in
      let rest = own_handed (shared_after stride s r) rs (let c = count_after s r in omega arith) in
      first ∙ (own_step s r there (requests_of m (shared_log stride (shared_after stride s r) rs)) rest
      ∙ ap (λ (l : List Handed). handing (memory_in stride s.blocks s.loans m) (entries l)) (sym first))

  -- .. of requests that fit
  fits_with : (j : ℕ) (x : Handed) (o : Outcome Reply) (l : List Handed) → FitsEntry x.entry → AllFit l → AllFit (with_request m (Request.To j x) o l)
  unfolding AllFit
  fits_with j x o l f h = by o
    where
      either : (t : Bool) → AllFit (cond t (x ∷ l) l)
      either true = (f, h)
      either false = h

      by : (o : Outcome Reply) → AllFit (with_request m (Request.To j x) o l)
      by (Outcome.Own a) = either (eqb j m)
      by Outcome.NoMachine = either (eqb j m)
      by Outcome.NoAllowance = h
      by Outcome.Turned = either (eqb j m)

  fits_step : (s : Shared) (r : Request Entry) (o : Outcome Reply) (l : List Handed) → FitsRequest r → AllFit l → AllFit (with_request m (handed stride s r) o l)
  fits_step s (Request.To j e) o l f h = fits_with j (as_left (memory_in stride s.blocks s.loans j) e) o l f h
  fits_step s Request.Turn o l f h = h

  pub own_fits : (s : Shared) (rs : List (Request Entry)) → AllFitRequests rs → AllFit (requests_of m (shared_log stride s rs))
  unfolding requests_of handed_all log AllFit AllFitRequests
  own_fits s [] f = tt
  own_fits s (r ∷ rs) f =
      subst AllFit (sym (ap (requests_of m) (log_first stride s r rs)))
      (fits_step s r (request lent_cards (standing stride s) (handed stride s r)).outcome (requests_of m (shared_log stride (shared_after stride s r) rs)) f.0
      (own_fits (shared_after stride s r) rs f.1))

-- one card alone, in the terms of the crate lent_runs
pub alone_remembers : (m : Memory) (xs : List Handed) → state_alone lent_cards m xs ≡ remember m xs
unfolding state_alone remember
alone_remembers m [] = refl
alone_remembers m (x ∷ xs) = alone_remembers (memory_after m x) xs

-- with a loan that is long enough no step is refused with 11
pub alone_replies :
    (es : List Entry) (m : Memory) → loan_words m.block ≤ length m.loan → answers_alone lent_cards m (handing m es) ≡ replies_in m (handing m es)
unfolding answers_alone replies_in handing
alone_replies [] m h = refl
alone_replies (e ∷ es) m h =
    rw (enough m.block m.loan h e)
    (ap (λ (l : List Reply). reply_in m.block m.loan e ∷ l) (alone_replies es (memory_after m (as_left m e)) (still m e h)))
