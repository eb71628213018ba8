-- What a program in another language is handed of an answer (document 01: 'If an answer is an enum, a definition gives this paper's number and values for
-- every case of the enum'): a status, which is 0 where a request is taken and else the number of its refusal, and numbers that go into an array that
-- the caller lends. A refusal and a value never stand in one place, so no number is both.
use Rattle.std.specs.Prelude.{ℕ, Bool, cond, List, [], ◌∷◌, eqb, Ok, Err}
use Rattle.construction.specs.declared.{answers.Answer.Answer, accesses.Cell.Cell, answers.Report.Report}
use Rattle.construction.specs.Answers.{number_of, output_numbers}
use Rattle.construction.specs.Labels.{label_row}
use Rattle.construction.specs.Reports.{swap_byte}
use Rattle.construction.specs.Types.{Written, Verdict}
use Rattle.codes.specs.Parts.{stores}
use Rattle.lent_sweep.specs.declared.Counts.{Counts}

-- numbers in a lent array, from its first place on: those past its end fall away, and the places behind the last of them keep what they held
abbrev pub told : List ℕ → List ℕ → List ℕ
told out numbers = stores out 0 numbers

-- a call, an exit request, a step, a read or a change
abbrev pub status_of : Answer → ℕ
status_of Answer.Taken = 0
status_of Answer.Run = 0
status_of (Answer.Done number y steps) = 0
status_of (Answer.Exited steps) = 0
status_of (Answer.Value x) = 0
status_of (Answer.Refused r) = number_of r
status_of (Answer.RefusedAt r line) = number_of r

-- the kind of an accepted step's answer: run 0, done 1, fault 2, exited 3
abbrev pub done_kind : Bool → ℕ
done_kind fault = cond fault 2 1

-- of a step its kind, then its own steps, the gate number and the outputs; of a read the value; of a change that is refused the line
abbrev pub numbers_of : Answer → List ℕ
numbers_of Answer.Taken = []
numbers_of Answer.Run = 0 ∷ []
numbers_of (Answer.Done number y steps) = done_kind y.fault ∷ steps ∷ number ∷ output_numbers y.outputs
numbers_of (Answer.Exited steps) = 3 ∷ steps ∷ []
numbers_of (Answer.Value x) = x ∷ []
numbers_of (Answer.Refused r) = []
numbers_of (Answer.RefusedAt r line) = line ∷ []

-- an opening: its line where the text is refused
abbrev pub verdict_status : Verdict → ℕ
verdict_status (Ok _) = 0
verdict_status (Err e) = number_of e.refusal

abbrev pub verdict_numbers : Verdict → List ℕ
verdict_numbers (Ok _) = []
verdict_numbers (Err e) = e.line ∷ []

-- the writer: the length of the text
abbrev pub written_status : Written → ℕ
written_status (Ok n) = 0
written_status (Err r) = number_of r

abbrev pub written_numbers : Written → List ℕ
written_numbers (Ok n) = n ∷ []
written_numbers (Err r) = []

-- a report (document 02, order 1) as it is printed: the letter of the label and the number of its line, the cell's letter and number (71 is G, 65 A, 82 R,
-- 45 none; G and none have 0), the byte of the swap, the gate number last read, the word of noted variables and their count; nothing of no access
abbrev pub cell_letter : Cell → ℕ
cell_letter Cell.None = 45
cell_letter Cell.Gate = 71
cell_letter (Cell.Announcement m) = 65
cell_letter (Cell.Record v) = 82

abbrev pub cell_number : Cell → ℕ
cell_number Cell.None = 0
cell_number Cell.Gate = 0
cell_number (Cell.Announcement m) = m
cell_number (Cell.Record v) = v

abbrev pub access_numbers : Report → List ℕ
access_numbers r =
    (label_row r.label).letter
    ∷ (label_row r.label).number
    ∷ cell_letter r.cell
    ∷ cell_number r.cell
    ∷ swap_byte r.swap
    ∷ r.number
    ∷ r.noted
    ∷ r.count
    ∷ []

unfoldable pub report_numbers : Report → List ℕ
report_numbers r = cond (eqb (label_row r.label).letter 0) [] (access_numbers r)

-- a run over a schedule (document 02, order 12): the accepted steps; the operations that were done, ended as faults and exited; the most own steps of one of them
abbrev pub count_numbers : Counts → List ℕ
count_numbers c = c.accepted ∷ c.done ∷ c.faulted ∷ c.exited ∷ c.longest ∷ []
