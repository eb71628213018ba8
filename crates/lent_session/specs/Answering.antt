-- The answer of a card in lent words to a command of the bench program (document 01, 'The bench program'; document 02, order 10), what is told of a traced
-- step, and the block and the loan after it. A malformed command is refusal 2 and leaves both as they were.
use Rattle.std.specs.Prelude.{ℕ, Bool, true, cond, ◌&&◌, List, [], ◌∷◌, ◌≡◌, ltb}
use Rattle.construction.specs.declared.{answers.Answer.Answer}
use Rattle.construction.specs.declared.answers.Refusal.TheVariants.{Malformed}
use Rattle.construction.specs.Answers.{is_refused}
use Rattle.construction.specs.Tracing.{no_report}
use Rattle.commands.specs.declared.Command.{Command}
use Rattle.commands.specs.Commands.{part}
use Rattle.loan.specs.Loans.{loan_words}
use Rattle.lent_card.specs.Requests.{call_answer, call_block, exit_answer, exit_block, read_answer, change_answer, change_block}
use Rattle.lent_steps.specs.declared.tracing.Told.{Told}
use Rattle.lent_steps.specs.Steps.{answer_to, step_block, step_loan, report_to}

pub record Executed : Type 0 where
  pub told : Told
  pub block : List ℕ
  pub loan : List ℕ

abbrev pub untold : Answer → Told
untold a = record { answer = a; report = no_report }

-- the command m of the calls text t, on a card in the block b and the loan l
unfoldable pub lent_executed : List ℕ → List ℕ → List ℕ → Command → Executed
lent_executed t b l (Command.Call i k x) = record { told = untold (call_answer b i k); block = call_block b i k x; loan = l }
lent_executed t b l (Command.Exit i) = record { told = untold (exit_answer b i); block = exit_block b i; loan = l }
lent_executed t b l (Command.Step i) = record { told = untold (answer_to b l i); block = step_block b l i; loan = step_loan b l i }
lent_executed t b l (Command.Trace i) =
    record { told = record { answer = answer_to b l i; report = report_to b l i }; block = step_block b l i; loan = step_loan b l i }
lent_executed t b l (Command.Read v) = record { told = untold (read_answer b v); block = b; loan = l }
lent_executed t b l (Command.Change k from count start end) =
    let y = part t start end in
    record { told = untold (change_answer b k from y); block = change_block b k from y; loan = l }
lent_executed t b l Command.Malformed = record { told = untold (Answer.Refused Malformed); block = b; loan = l }

-- the answer r, and the block c and the loan m that are left
pub record Executes (x : Executed) (r : Told) (c m : List ℕ) : Type 0 where
  pub told : r ≡ x.told
  pub block : c ≡ x.block
  pub loan : m ≡ x.loan

-- a step with a loan of two words, fewer than any loan that takes words
abbrev pub short_loan : List ℕ
short_loan = 0 ∷ 0 ∷ []

abbrev pub short_refused : List ℕ → ℕ → Bool
short_refused b i = is_refused (answer_to b short_loan i)

abbrev pub short_block : List ℕ → ℕ → List ℕ
short_block b i = step_block b short_loan i

-- before a step it is asked for in that way, if this is wanted and the loan takes words: whether it was refused, and the block after it
pub record Asked : Type 0 where
  pub refused : Bool
  pub block : List ℕ

abbrev pub not_asked : List ℕ → Asked
not_asked b = record { refused = true; block = b }

abbrev pub asked_for : List ℕ → Command → Asked
asked_for b (Command.Call i k x) = not_asked b
asked_for b (Command.Exit i) = not_asked b
asked_for b (Command.Step i) = record { refused = short_refused b i; block = short_block b i }
asked_for b (Command.Trace i) = record { refused = short_refused b i; block = short_block b i }
asked_for b (Command.Read v) = not_asked b
asked_for b (Command.Change k from count start end) = not_asked b
asked_for b Command.Malformed = not_asked b

unfoldable pub asked_short : Bool → List ℕ → Command → Asked
asked_short short b m = cond (short && ltb 2 (loan_words b)) (asked_for b m) (not_asked b)
