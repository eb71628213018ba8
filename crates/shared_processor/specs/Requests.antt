-- Requests to machines that share a processor (document 02, order 14), each with a card in its part of lent words (order 10): what the crate allowance says of
-- any kind of machines, said of these.
use Rattle.std.specs.Prelude.{ℕ, ◌≡◌, Bool, false, not, List}
use Rattle.construction.specs.declared.{answers.Answer.Answer, answers.Refusal.Refusal}
use Rattle.construction.specs.declared.answers.Refusal.TheVariants as refusals
use Rattle.construction.specs.Answers.{is_refused}
use Rattle.construction.specs.History.{Entry}
use Rattle.lent_runs.specs.Runs.{Handed, Memory, Reply, untraced, reply_in, memory_after, as_left}
use Rattle.allowance.specs.declared.Allowance.{Allowance}
use Rattle.allowance.specs.Requests.{Kind, Request, Outcome, Machines, Answered, request}
use Rattle.shared_processor.specs.Parts.{part, with_part}

-- an accepted step: a step, traced or not, that the card did not refuse
abbrev pub is_card_step : Entry → Answer → Bool
is_card_step (Entry.Call i k inputs) x = false
is_card_step (Entry.Exit i) x = false
is_card_step (Entry.Step i) x = not (is_refused x)
is_card_step (Entry.Trace i) x = not (is_refused x)
is_card_step (Entry.Read v) x = false
is_card_step (Entry.Change k from t) x = false

-- cards in block and loan as machines: a request is an entry with the loan that is handed in, and acts as on one card (crate lent_runs)
abbrev pub lent_cards : Kind Memory Handed Reply
lent_cards =
    record {
      act = λ m x. record { state = memory_after m x; answer = reply_in m.block x.loan x.entry };
      is_step = λ x r. is_card_step x.entry r.answer;
    }

-- 'a machine not there is 5'; 'a step without allowance gets 19'. A change is refused with a line, which is 0.
abbrev pub refusal_of : Entry → Refusal → Answer
refusal_of (Entry.Call i k inputs) why = Answer.Refused why
refusal_of (Entry.Exit i) why = Answer.Refused why
refusal_of (Entry.Step i) why = Answer.Refused why
refusal_of (Entry.Trace i) why = Answer.Refused why
refusal_of (Entry.Read v) why = Answer.Refused why
refusal_of (Entry.Change k from t) why = Answer.RefusedAt why 0

abbrev pub reply_for : Entry → Outcome Reply → Reply
reply_for e (Outcome.Own r) = r
reply_for e Outcome.NoMachine = untraced (refusal_of e refusals.NoProcess)
reply_for e Outcome.NoAllowance = untraced (refusal_of e refusals.NoAllowance)
reply_for e Outcome.Turned = untraced Answer.Taken

-- the words of machine m: its block of 1456, and its loan
abbrev pub memory_in : ℕ → List ℕ → List ℕ → ℕ → Memory
memory_in stride blocks loans m = record { block = part 1456 blocks m; loan = part stride loans m }

abbrev pub machines_in : Allowance → ℕ → List ℕ → List ℕ → Machines Memory
machines_in a stride blocks loans = record { allowance = a; states = memory_in stride blocks loans }

-- the request e to machine m
unfoldable pub request_to : Allowance → ℕ → List ℕ → List ℕ → ℕ → Entry → Answered Memory Reply
request_to a stride blocks loans m e =
    request lent_cards (machines_in a stride blocks loans) (Request.To m (as_left (memory_in stride blocks loans m) e))

abbrev pub reply_to : Allowance → ℕ → List ℕ → List ℕ → ℕ → Entry → Reply
reply_to a stride blocks loans m e = reply_for e (request_to a stride blocks loans m e).outcome

abbrev pub allowance_after : Allowance → ℕ → List ℕ → List ℕ → ℕ → Entry → Allowance
allowance_after a stride blocks loans m e = (request_to a stride blocks loans m e).machines.allowance

abbrev pub blocks_after : Allowance → ℕ → List ℕ → List ℕ → ℕ → Entry → List ℕ
blocks_after a stride blocks loans m e = with_part 1456 blocks m ((request_to a stride blocks loans m e).machines.states m).block

abbrev pub loans_after : Allowance → ℕ → List ℕ → List ℕ → ℕ → Entry → List ℕ
loans_after a stride blocks loans m e = with_part stride loans m ((request_to a stride blocks loans m e).machines.states m).loan

-- what a function that makes the request leaves: its reply r, the allowance c, and the words. Only a step looks at the loans, so that the other requests are
-- said with none.
pub record Performs (a : Allowance) (stride : ℕ) (bs ls : List ℕ) (m : ℕ) (e : Entry) (r : Reply) (c : Allowance) (bs' ls' : List ℕ) : Type 0 where
  pub reply : r ≡ reply_to a stride bs ls m e
  pub allowance : c ≡ allowance_after a stride bs ls m e
  pub blocks : bs' ≡ blocks_after a stride bs ls m e
  pub loans : ls' ≡ loans_after a stride bs ls m e
