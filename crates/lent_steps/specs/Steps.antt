-- Step, and step with its report (document 02, order 1), on a card that stands in a block and a loan (order 10): the answer, the block and the loan after it.
-- A refused step leaves both as they were. `access_block` and `access_loan` (crate lent_helping) say what an access makes of them,
-- `access_swap` its swap.
use Rattle.std.specs.Prelude.{ℕ, Bool, cond, List, ltb, length, get_or}
use Rattle.construction.specs.declared.{accesses.Access.Access, answers.Answer.Answer, accesses.Cell.Cell, simulations.Item.Item, answers.Report.Report}
use Rattle.construction.specs.declared.{accesses.Swap.Swap}
use Rattle.construction.specs.declared.answers.Refusal.TheVariants.{ShortBuffer}
use Rattle.construction.specs.Answers.{is_refused}
use Rattle.construction.specs.Dictionary.{no_item}
use Rattle.construction.specs.Machine.{access_of, cell_by}
use Rattle.construction.specs.Requests.{step_answer}
use Rattle.construction.specs.Tracing.{label_of, report_with, no_report}
use Rattle.requests.specs.Judging.{step_judged}
use Rattle.block.specs.Layout.{process_count_in, limit_in, steps_in, control_in, exit_in, count_in, last_gate_in, last_in, mask_in}
use Rattle.loan.specs.Loans.{loan_words, held_dictionary}
use Rattle.lent_machine.specs.Accesses.{counted}
use Rattle.lent_helping.specs.Steps.{access_block, access_loan, access_swap}

-- refusals 5, 8, 10; then 11: 'A step with a loan too short is turned back with 11, after 10', whether it would use the loan or not
abbrev pub lent_judged : Answer → Bool → Answer
lent_judged x short = cond (is_refused x) x (cond short (Answer.Refused ShortBuffer) Answer.Taken)

unfoldable pub step_verdict : List ℕ → List ℕ → ℕ → Answer
step_verdict b l i =
    lent_judged (step_judged i (process_count_in b) (control_in b i).place (steps_in b) (limit_in b)) (ltb (length l) (loan_words b))

-- the access of process i, by its place
abbrev pub access_at : List ℕ → ℕ → Access
access_at b i = access_of (control_in b i).place (exit_in b i)

-- an accepted step: its access, then it is counted
abbrev pub advanced : List ℕ → List ℕ → ℕ → List ℕ
advanced b l i = counted (access_block (access_at b i) b l i) i

unfoldable pub step_block : List ℕ → List ℕ → ℕ → List ℕ
step_block b l i = cond (is_refused (step_verdict b l i)) b (advanced b l i)

unfoldable pub step_loan : List ℕ → List ℕ → ℕ → List ℕ
step_loan b l i = cond (is_refused (step_verdict b l i)) l (access_loan (access_at b i) b l i)

-- its answer, by what process i keeps in the block after it
abbrev pub answer_in : List ℕ → ℕ → Answer
answer_in b i = step_answer (control_in b i).place (last_in b i) (count_in b i)

unfoldable pub answer_to : List ℕ → List ℕ → ℕ → Answer
answer_to b l i = cond (is_refused (step_verdict b l i)) (step_verdict b l i) (answer_in (advanced b l i) i)

-- what is told of an accepted step: the item that H36 writes, the cell that the access touches, and its swap
abbrev pub item_to : List ℕ → List ℕ → ℕ → Item
item_to b l i = get_or (held_dictionary b l i).items (control_in b i).target no_item

abbrev pub cell_to : List ℕ → List ℕ → ℕ → Cell
cell_to b l i = cell_by (access_at b i) (process_count_in b) i (last_gate_in b i) (control_in b i).target (item_to b l i).variable

abbrev pub swap_to : List ℕ → List ℕ → ℕ → Swap
swap_to b l i = access_swap (access_at b i) b l i

unfoldable pub report_to : List ℕ → List ℕ → ℕ → Report
report_to b l i =
    let after = advanced b l i in
    cond (is_refused (step_verdict b l i)) no_report
    (report_with (label_of (control_in b i).place (exit_in b i)) (cell_to b l i) (swap_to b l i) (last_gate_in after i).seq (mask_in after i))
