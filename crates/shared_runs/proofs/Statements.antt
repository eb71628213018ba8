-- The theorems of order 14 on machines in lent words, over every list of requests to all of them
use Prim.Native.Nat.{ℕ, ◌<◌, ◌≤◌}
use mathlib.Core.Path.{◌≡◌, sym, ap, subst, ◌∙◌}
use mathlib.Core.Logic.{◌≢◌}
use mathlib.Core.List.{List}
use lib.ListN.{length}
use Rattle.construction.specs.History.{Entry, Observation}
use Rattle.construction.specs.Opening.{opened}
use Rattle.lent_runs.specs.Runs.{Handed, Memory, AllFit, remember, replies_of, standing_in, HandedBack, opened_memory, memory_of, AsByValue, handing, as_left}
use Rattle.lent_runs.proofs.Handing.{hands_back, runs_every_list}
use Rattle.lent_runs.proofs.Runs.{as_by_value}
use Rattle.allowance.specs.Requests.{Request, Machines, after, log}
use Rattle.allowance.specs.Projecting.{requests_of, answers_alone}
use Rattle.allowance.proofs.Statements.{others_kept, answers_alone_lem, state_alone_lem}
use Rattle.shared_processor.specs.Parts.{part}
use Rattle.shared_processor.specs.Requests.{lent_cards, memory_in}
use Rattle.shared_runs.specs.Runs.{Shared, shared_after, shared_run, standing, handed_all, shared_log, own_entries, OpenedWith, AsAlone, AllFitRequests}
use Rattle.shared_runs.proofs.Standing.{standing_after, standing_run}
use Rattle.shared_runs.proofs.Own.{own_handed, own_fits, alone_remembers, alone_replies}

-- a request to one machine leaves every word of the others as it was
pub others_shared :
    (stride : ℕ) (s : Shared) (m j : ℕ) (e : Entry) → j ≢ m →
    memory_in stride (shared_after stride s (Request.To m e)).blocks (shared_after stride s (Request.To m e)).loans j ≡ memory_in stride s.blocks s.loans j
others_shared stride s m j e ne =
    ap (λ (x : Machines Memory). x.states j) (standing_after stride s (Request.To m e))
    ∙ others_kept lent_cards (standing stride s) m j (as_left (memory_in stride s.blocks s.loans m) e) (λ q. ne (sym q))

module _
    (stride : ℕ) (t b : List ℕ) (s : Shared) (m : ℕ) (rs : List (Request Entry)) (there : m < s.allowance.count) (o : OpenedWith stride t b s m)
    (fits : AllFitRequests rs)
  where
    abbrev loan : List ℕ
    loan = part stride s.loans m

    abbrev first : Memory
    first = opened_memory t b loan

    abbrev own : List Entry
    own = own_entries stride m s rs

    -- its requests are handed to the card that its text opened, each with the loan as it was left
    begins : memory_in stride s.blocks s.loans m ≡ first
    begins = λ i. record { block = o.block i; loan = loan }

    handed_on : requests_of m (shared_log stride s rs) ≡ handing first own
    handed_on = own_handed stride m s rs there ∙ ap (λ (x : Memory). handing x own) begins

    own_fit : AllFit (handing first own)
    own_fit = subst AllFit handed_on (own_fits stride m s rs fits)

    -- its words
    pub own_memory : memory_in stride (shared_run stride s rs).blocks (shared_run stride s rs).loans m ≡ memory_of t b loan (handing first own)
    own_memory =
        ap (λ (x : Machines Memory). x.states m) (standing_run stride s rs)
        ∙ (state_alone_lem lent_cards (standing stride s) (handed_all stride s rs) m there
        ∙ (alone_remembers (memory_in stride s.blocks s.loans m) (requests_of m (shared_log stride s rs))
        ∙ (λ i. remember (begins i) (handed_on i))))

    -- 'each machine answers as it would alone with its own calls, less the steps that got 19'
    pub as_alone : AsAlone stride t b s m rs
    as_alone =
        let back = hands_back own first o.lent in
        let every = runs_every_list t b loan o.long o.lent own own_fit in
        record {
          card = ap standing_in own_memory ∙ ap (λ (x : Observation). x.card) every;
          observed = every;
          replies =
              answers_alone_lem lent_cards (standing stride s) (handed_all stride s rs) m there
              ∙ ((λ i. answers_alone lent_cards (begins i) (handed_on i))
              ∙ (alone_replies own first o.lent
              ∙ ((as_by_value t b loan o.long (handing first own) own_fit back.0).replies ∙ ap (replies_of (opened t).card) back.1)));
        }

-- the same where the loans are altered between the requests: what order 10 asks of one card is asked of the requests of this machine
module _
    (x : Machines Memory) (rs : List (Request Handed)) (m : ℕ) (there : m < x.allowance.count) (t b l : List ℕ) (long : 1456 ≤ length b)
    (opening : x.states m ≡ opened_memory t b l)
  where
    abbrev requests : List Handed
    requests = requests_of m (log lent_cards x rs)

    pub handed_alone :
        AllFit requests → HandedBack (opened_memory t b l) requests →
        ((after lent_cards x rs).states m ≡ memory_of t b l requests) × AsByValue t b l requests
    handed_alone fits handed = (
      state_alone_lem lent_cards x rs m there ∙ (alone_remembers (x.states m) requests ∙ ap (λ (y : Memory). remember y requests) opening),
      as_by_value t b l long requests fits handed,
    )
