-- What the card answers to each command, by what the requests give.
use Prim.Native.Nat.{ℕ, ◌<◌, ◌≤◌}
use mathlib.Core.Bool.{Bool, true, false}
use mathlib.Core.List.{List}
use mathlib.Core.Path.{◌≡◌, refl, ◌∙◌, ap}
use borrow.Author.Tests.{lt-ltb, le-ltb}
use Rattle.construction.specs.declared.{cells.Words.Words, answers.Answer.Answer}
use Rattle.construction.specs.declared.answers.Refusal.TheVariants.{Malformed}
use Rattle.commands.specs.declared.Command.{Command}
use Rattle.commands.specs.Commands.{part}
use Rattle.loan.specs.Loans.{loan_words}
use Rattle.lent_card.specs.Requests.{call_answer, call_block, exit_answer, exit_block, read_answer, change_answer, change_block}
use Rattle.lent_steps.specs.declared.tracing.Told.{Told}
use Rattle.lent_steps.specs.Steps.{answer_to, step_block, step_loan, report_to}
use Rattle.lent_session.specs.Answering.{untold, lent_executed, Executes, asked_for, asked_short}

module _ (t b l : List ℕ) {m : Command} {a : Answer} {r : Told} where
  pub called :
      {i p : ℕ} {x : Words} {c : List ℕ} → m ≡ Command.Call i p x → a ≡ call_answer b i p → c ≡ call_block b i p x → r ≡ untold a →
      Executes (lent_executed t b l m) r c l
  unfolding lent_executed
  called e ea ec er = rw e (record { told = er ∙ ap untold ea; block = ec; loan = refl })

  pub exited : {i : ℕ} {c : List ℕ} → m ≡ Command.Exit i → a ≡ exit_answer b i → c ≡ exit_block b i → r ≡ untold a → Executes (lent_executed t b l m) r c l
  unfolding lent_executed
  exited e ea ec er = rw e (record { told = er ∙ ap untold ea; block = ec; loan = refl })

  pub stepped :
      {i : ℕ} {c k : List ℕ} → m ≡ Command.Step i → a ≡ answer_to b l i → c ≡ step_block b l i → k ≡ step_loan b l i → r ≡ untold a →
      Executes (lent_executed t b l m) r c k
  unfolding lent_executed
  stepped e ea ec ek er = rw e (record { told = er ∙ ap untold ea; block = ec; loan = ek })

  pub read : {v : ℕ} → m ≡ Command.Read v → a ≡ read_answer b v → r ≡ untold a → Executes (lent_executed t b l m) r b l
  unfolding lent_executed
  read e ea er = rw e (record { told = er ∙ ap untold ea; block = refl; loan = refl })

  pub changed :
      {p from count start end : ℕ} {c : List ℕ} → m ≡ Command.Change p from count start end → a ≡ change_answer b p from (part t start end) →
      c ≡ change_block b p from (part t start end) → r ≡ untold a → Executes (lent_executed t b l m) r c l
  unfolding lent_executed
  changed e ea ec er = rw e (record { told = er ∙ ap untold ea; block = ec; loan = refl })

module _ (t b l : List ℕ) {m : Command} {r : Told} where
  pub traced :
      {i : ℕ} {c k : List ℕ} → m ≡ Command.Trace i → r.answer ≡ answer_to b l i → r.report ≡ report_to b l i → c ≡ step_block b l i → k ≡ step_loan b l i →
      Executes (lent_executed t b l m) r c k
  unfolding lent_executed
  traced e ea er ec ek = rw e (record { told = λ j. record { answer = ea j; report = er j }; block = ec; loan = ek })

  pub malformed : m ≡ Command.Malformed → r ≡ untold (Answer.Refused Malformed) → Executes (lent_executed t b l m) r b l
  unfolding lent_executed
  malformed e er = rw e (record { told = er; block = refl; loan = refl })

-- whether a step is asked for with a loan too short first
module _ (short : Bool) (b : List ℕ) (m : Command) {n : ℕ} where
  pub asked : short ≡ true → n ≡ loan_words b → 2 < n → asked_for b m ≡ asked_short short b m
  unfolding asked_short
  asked e en h = rw (e, ← en, lt-ltb 2 n h)

  pub not_asked_lem : n ≡ loan_words b → n ≤ 2 → record { refused = true; block = b } ≡ asked_short short b m
  unfolding asked_short
  not_asked_lem en h = go short
    where
      go : (s : Bool) → record { refused = true; block = b } ≡ asked_short s b m
      go true = rw (← en, le-ltb 2 n h)
      go false = refl
