-- A block and a loan over a list of entries (document 02, order 10): 'If the owner hands them back unaltered at each step, every answer, cell and count equals
-- that with the full books'. Beside them stands the observer of demand 3, so that what is said of every run of the card is said of block and loan.
use Rattle.std.specs.Prelude.{ℕ, ◌≡◌, Bool, true, false, cond, not, List, [], ◌∷◌, eqb, take}
use Rattle.construction.specs.declared.{answers.Answer.Answer, card.Card.Card, answers.Report.Report}
use Rattle.construction.specs.Answers.{number_of, is_refused}
use Rattle.construction.specs.Tracing.{trace, no_report}
use Rattle.construction.specs.History.{Entry, FitsEntry, act, event_of, History, finishing, with_finishes, with_entry, Observation, opening, run}
use Rattle.construction.specs.Opening.{opened}
use Rattle.block.specs.Cards.{card_of}
use Rattle.loan.specs.Loans.{loan_words}
use Rattle.lent_text.specs.Opened.{opened_block}
use Rattle.lent_card.specs.Requests.{call_answer, call_block, exit_answer, exit_block, read_answer, change_answer, change_block}
use Rattle.lent_steps.specs.Steps.{step_verdict, step_block, step_loan, answer_to, report_to}

-- an entry of demand 3 with the loan that the owner hands in; only a step looks at it
pub record Handed : Type 0 where
  pub entry : Entry
  pub loan : List ℕ

-- the block, and the loan as the last accepted step left it
pub record Memory : Type 0 where
  pub block : List ℕ
  pub loan : List ℕ

-- what an entry gets: its answer, and the report of a traced step
pub record Reply : Type 0 where
  pub answer : Answer
  pub report : Report

abbrev pub untraced : Answer → Reply
untraced x = record { answer = x; report = no_report }

-- .. on block and loan
abbrev pub reply_in : List ℕ → List ℕ → Entry → Reply
reply_in b l (Entry.Call i k inputs) = untraced (call_answer b i k)
reply_in b l (Entry.Exit i) = untraced (exit_answer b i)
reply_in b l (Entry.Step i) = untraced (answer_to b l i)
reply_in b l (Entry.Trace i) = record { answer = answer_to b l i; report = report_to b l i }
reply_in b l (Entry.Read v) = untraced (read_answer b v)
reply_in b l (Entry.Change k from t) = untraced (change_answer b k from t)

-- .. on the card by value
abbrev pub report_for : Card → Entry → Report
report_for c (Entry.Call i k inputs) = no_report
report_for c (Entry.Exit i) = no_report
report_for c (Entry.Step i) = no_report
report_for c (Entry.Trace i) = (trace c i).report
report_for c (Entry.Read v) = no_report
report_for c (Entry.Change k from t) = no_report

abbrev pub reply_of : Card → Entry → Reply
reply_of c e = record { answer = (act c e).answer; report = report_for c e }

-- the block after an entry
abbrev pub block_after : List ℕ → List ℕ → Entry → List ℕ
block_after b l (Entry.Call i k inputs) = call_block b i k inputs
block_after b l (Entry.Exit i) = exit_block b i
block_after b l (Entry.Step i) = step_block b l i
block_after b l (Entry.Trace i) = step_block b l i
block_after b l (Entry.Read v) = b
block_after b l (Entry.Change k from t) = change_block b k from t

-- whether an entry is an accepted step; the loan after it, and as it was left before where it is none
abbrev pub is_accepted : List ℕ → List ℕ → Entry → Bool
is_accepted b l (Entry.Call i k inputs) = false
is_accepted b l (Entry.Exit i) = false
is_accepted b l (Entry.Step i) = not (is_refused (step_verdict b l i))
is_accepted b l (Entry.Trace i) = not (is_refused (step_verdict b l i))
is_accepted b l (Entry.Read v) = false
is_accepted b l (Entry.Change k from t) = false

abbrev pub loan_after : List ℕ → List ℕ → Entry → List ℕ
loan_after b l (Entry.Call i k inputs) = l
loan_after b l (Entry.Exit i) = l
loan_after b l (Entry.Step i) = step_loan b l i
loan_after b l (Entry.Trace i) = step_loan b l i
loan_after b l (Entry.Read v) = l
loan_after b l (Entry.Change k from t) = l

abbrev pub left : Memory → Handed → List ℕ
left m x = cond (is_accepted m.block x.loan x.entry) (loan_after m.block x.loan x.entry) m.loan

abbrev pub memory_after : Memory → Handed → Memory
memory_after m x = record { block = block_after m.block x.loan x.entry; loan = left m x }

unfoldable pub remember : Memory → List Handed → Memory
remember m [] = m
remember m (x ∷ xs) = remember (memory_after m x) xs

-- refusal 11 of a step: its loan is too short. The by-value run leaves these entries out.
abbrev pub is_eleven : Answer → Bool
is_eleven Answer.Taken = false
is_eleven Answer.Run = false
is_eleven (Answer.Done number y steps) = false
is_eleven (Answer.Exited steps) = false
is_eleven (Answer.Value x) = false
is_eleven (Answer.Refused r) = eqb (number_of r) 11
is_eleven (Answer.RefusedAt r line) = false

abbrev pub is_short : Memory → Handed → Bool
is_short m x = is_eleven (reply_in m.block x.loan x.entry).answer

unfoldable pub entries_of : Memory → List Handed → List Entry
entries_of m [] = []
entries_of m (x ∷ xs) = cond (is_short m x) (entries_of (memory_after m x) xs) (x.entry ∷ entries_of (memory_after m x) xs)

-- the replies to the others, one after the other; and those of the card by value
unfoldable pub replies_in : Memory → List Handed → List Reply
replies_in m [] = []
replies_in m (x ∷ xs) =
    cond (is_short m x) (replies_in (memory_after m x) xs) (reply_in m.block x.loan x.entry ∷ replies_in (memory_after m x) xs)

unfoldable pub replies_of : Card → List Entry → List Reply
replies_of c [] = []
replies_of c (e ∷ es) = reply_of c e ∷ replies_of (act c e).card es

-- THE PREMISE: at each accepted step the first p × w items of the loan are as the last accepted step left them. What stands behind them, and the length of
-- the loan, may differ from step to step. Before the first step the loan may hold anything, as the statement is for every first loan.
unfoldable pub HandedBack : Memory → List Handed → Type 0
HandedBack m [] = Unit
HandedBack m (x ∷ xs) =
    (is_accepted m.block x.loan x.entry ≡ true → take (loan_words m.block) x.loan ≡ take (loan_words m.block) m.loan)
    × HandedBack (memory_after m x) xs

-- the inputs of every call are 32-bit words
unfoldable pub AllFit : List Handed → Type 0
AllFit [] = Unit
AllFit (x ∷ xs) = FitsEntry x.entry × AllFit xs

-- the text opened into a block, with a loan of any content
abbrev pub opened_memory : List ℕ → List ℕ → List ℕ → Memory
opened_memory t b l = record { block = opened_block t b; loan = l }

abbrev pub memory_of : List ℕ → List ℕ → List ℕ → List Handed → Memory
memory_of t b l xs = remember (opened_memory t b l) xs

-- the card that stands in a memory
abbrev pub standing_in : Memory → Card
standing_in m = card_of m.block m.loan

-- the observer of demand 3 (`observe` of construction's specs/History) beside block and loan: by the cells before and after an entry it notes which
-- operations finish, and then by the answer what begins and ends. It sees the steps that 11 refuses, too.
abbrev pub history_after : Card → Memory → History → Handed → History
history_after o m s x =
    with_entry o (with_finishes o (standing_in m).gate.seq (finishing (standing_in m) (standing_in (memory_after m x))) s) x.entry
    (event_of (reply_in m.block x.loan x.entry).answer)

unfoldable pub history_of : Card → Memory → History → List Handed → History
history_of o m s [] = s
history_of o m s (x ∷ xs) = history_of o (memory_after m x) (history_after o m s x) xs

-- the card that stands in block and loan after the entries xs, and the notes
abbrev pub lent_run : List ℕ → List ℕ → List ℕ → List Handed → Observation
lent_run t b l xs =
    let o = (opened t).card in
    record { card = standing_in (memory_of t b l xs); history = history_of o (opened_memory t b l) (opening o).history xs }

-- the entries that the run of the card by value has: all but the steps that 11 refuses
abbrev pub entries_by_value : List ℕ → List ℕ → List ℕ → List Handed → List Entry
entries_by_value t b l xs = entries_of (opened_memory t b l) xs

-- ORDER 10 for the text t opened into the block b, after the entries xs: block and loan hold the card of demand 3's run over the entries, what is noted
-- beside them is what is noted there, and the replies are the same
pub record AsByValue (t b l : List ℕ) (xs : List Handed) : Type 0 where
  pub observed : lent_run t b l xs ≡ run (opened t).card (entries_by_value t b l xs)
  pub replies : replies_in (opened_memory t b l) xs ≡ replies_of (opened t).card (entries_by_value t b l xs)

-- a statement Q on every run of the card speaks of block and loan: it holds of the run that is theirs
pub record Speaks (Q : List Entry → Type 0) (t b l : List ℕ) (xs : List Handed) : Type 0 where
  pub same : AsByValue t b l xs
  pub holds : Q (entries_by_value t b l xs)

-- an owner who hands in the loan each time as it was left
abbrev pub as_left : Memory → Entry → Handed
as_left m e = record { entry = e; loan = m.loan }

unfoldable pub handing : Memory → List Entry → List Handed
handing m [] = []
handing m (e ∷ es) = as_left m e ∷ handing (memory_after m (as_left m e)) es
