-- Machines that share a processor over a list of requests (document 02, order 14): 'each machine answers as it would alone with its own calls, less the steps
-- that got 19'. The words go from request to request, and nobody else writes them in between. (Loans that are altered in between: each function's contract,
-- and the theorems of the crate allowance, which hold of them too.)
use Rattle.std.specs.Prelude.{ℕ, ◌≤◌, ◌≡◌, List, [], ◌∷◌, map, length}
use Rattle.construction.specs.declared.{answers.Answer.Answer}
use Rattle.construction.specs.Answers.{Fields, fields, refused_with}
use Rattle.construction.specs.History.{Entry, FitsEntry, run}
use Rattle.construction.specs.Opening.{opened}
use Rattle.loan.specs.Loans.{loan_words}
use Rattle.lent_text.specs.Opened.{opened_block}
use Rattle.lent_runs.specs.Runs.{Handed, Memory, Reply, untraced, replies_of, as_left, standing_in, lent_run, opened_memory, handing}
use Rattle.allowance.specs.declared.Allowance.{Allowance}
use Rattle.allowance.specs.Allowing.{turn}
use Rattle.allowance.specs.Requests.{Request, Outcome, Machines, Logged, log}
use Rattle.allowance.specs.Projecting.{requests_of, answers_of}
use Rattle.shared_processor.specs.Parts.{part}
use Rattle.shared_processor.specs.Requests.{lent_cards, reply_for, memory_in, machines_in, reply_to, allowance_after, blocks_after, loans_after}

-- what the machines share, and their words
pub record Shared : Type 0 where
  pub allowance : Allowance
  pub blocks : List ℕ
  pub loans : List ℕ

abbrev pub told_for : Request Handed → Outcome Reply → Reply
told_for (Request.To m x) o = reply_for x.entry o
told_for Request.Turn o = untraced Answer.Taken

-- what the functions answer to a request of the log
abbrev pub told_in : Logged Handed Reply → Reply
told_in x = told_for x.request x.outcome

module _ (stride : ℕ) where
  -- a request as the functions make it (crate shared_processor; a turn: `allowance::turned`)
  abbrev pub shared_after : Shared → Request Entry → Shared
  shared_after s (Request.To m e) =
      record {
        allowance = allowance_after s.allowance stride s.blocks s.loans m e;
        blocks = blocks_after s.allowance stride s.blocks s.loans m e;
        loans = loans_after s.allowance stride s.blocks s.loans m e;
      }
  shared_after s Request.Turn = record { allowance = turn s.allowance; blocks = s.blocks; loans = s.loans }

  abbrev pub shared_reply : Shared → Request Entry → Reply
  shared_reply s (Request.To m e) = reply_to s.allowance stride s.blocks s.loans m e
  shared_reply s Request.Turn = untraced Answer.Taken

  -- .. and a list of them, one after the other: what is left, and the replies
  unfoldable pub shared_run : Shared → List (Request Entry) → Shared
  shared_run s [] = s
  shared_run s (r ∷ rs) = shared_run (shared_after s r) rs

  unfoldable pub shared_replies : Shared → List (Request Entry) → List Reply
  shared_replies s [] = []
  shared_replies s (r ∷ rs) = shared_reply s r ∷ shared_replies (shared_after s r) rs

  -- the same in the terms of the crate allowance: the machines that stand in the words, the requests with the loans that stand there, and the log
  abbrev pub standing : Shared → Machines Memory
  standing s = machines_in s.allowance stride s.blocks s.loans

  abbrev pub handed : Shared → Request Entry → Request Handed
  handed s (Request.To m e) = Request.To m (as_left (memory_in stride s.blocks s.loans m) e)
  handed s Request.Turn = Request.Turn

  unfoldable pub handed_all : Shared → List (Request Entry) → List (Request Handed)
  handed_all s [] = []
  handed_all s (r ∷ rs) = handed s r ∷ handed_all (shared_after s r) rs

  abbrev pub shared_log : Shared → List (Request Entry) → List (Logged Handed Reply)
  shared_log s rs = log lent_cards (standing s) (handed_all s rs)

  -- the entries of machine m among them, 'less the steps that got 19', and what it answered to them
  abbrev pub own_entries : ℕ → Shared → List (Request Entry) → List Entry
  own_entries m s rs = map (λ (x : Handed). x.entry) (requests_of m (shared_log s rs))

  abbrev pub own_replies : ℕ → Shared → List (Request Entry) → List Reply
  own_replies m s rs = answers_of m (shared_log s rs)

  -- machine m as its text t opened it, in a block of 1456 words, with a loan that is long enough
  pub record OpenedWith (t b : List ℕ) (s : Shared) (m : ℕ) : Type 0 where
    pub long : 1456 ≤ length b
    pub block : part 1456 s.blocks m ≡ opened_block t b
    pub lent : loan_words (opened_block t b) ≤ length (part stride s.loans m)

  -- EACH MACHINE ANSWERS AS IT WOULD ALONE: its words hold the card of the run by value over its own entries, what an observer of its words notes is what is
  -- noted there, and its replies are the replies there
  pub record AsAlone (t b : List ℕ) (s : Shared) (m : ℕ) (rs : List (Request Entry)) : Type 0 where
    pub card : standing_in (memory_in stride (shared_run s rs).blocks (shared_run s rs).loans m) ≡ (run (opened t).card (own_entries m s rs)).card
    pub observed :
        lent_run t b (part stride s.loans m) (handing (opened_memory t b (part stride s.loans m)) (own_entries m s rs))
        ≡ run (opened t).card (own_entries m s rs)
    pub replies : own_replies m s rs ≡ replies_of (opened t).card (own_entries m s rs)

  -- a statement Q on every run of the card speaks of machine m: it holds of the run that is the machine's
  pub record SpeaksOf (Q : List Entry → Type 0) (t b : List ℕ) (s : Shared) (m : ℕ) (rs : List (Request Entry)) : Type 0 where
    pub same : AsAlone t b s m rs
    pub holds : Q (own_entries m s rs)

-- the inputs of calls have 32 bits each, as the functions' types have it
abbrev pub FitsRequest : Request Entry → Type 0
FitsRequest (Request.To m e) = FitsEntry e
FitsRequest Request.Turn = Unit

unfoldable pub AllFitRequests : List (Request Entry) → Type 0
AllFitRequests [] = Unit
AllFitRequests (r ∷ rs) = FitsRequest r × AllFitRequests rs

-- refusal 5 of a request: `refused,5`, of a change with its line, which is 0
abbrev pub five_fields : Entry → Fields
five_fields (Entry.Call i k inputs) = refused_with 5
five_fields (Entry.Exit i) = refused_with 5
five_fields (Entry.Step i) = refused_with 5
five_fields (Entry.Trace i) = refused_with 5
five_fields (Entry.Read v) = refused_with 5
five_fields (Entry.Change k from t) = fields "refused" (5 ∷ 0 ∷ [])
