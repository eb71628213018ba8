-- The line behind each step (document 02, order 1): what is told of an accepted step, and the request `trace`.
use Rattle.std.specs.Prelude.{ℕ, ◌≡◌, Bool, cond}
use Rattle.std.specs.Int.Count.{ones}
use Rattle.construction.specs.Types.{Label, P5, P10, P6, Cell, Swap, Card, Answered, Report, Traced}
use Rattle.construction.specs.Labels.{label_row, same_label}
use Rattle.construction.specs.Answers.{is_refused}
use Rattle.construction.specs.Marks.{Marks}
use Rattle.construction.specs.Parts.{local_at}
use Rattle.construction.specs.Machine.{advance, swap_of}
use Rattle.construction.specs.OneAccess.{touched_cell}
use Rattle.construction.specs.Requests.{step}

-- 'the label of the access made': that of a process's place, by its exit request at the top of the loop (line P5, which is no access)
abbrev pub label_of : Label → Bool → Label
label_of place exit = cond (same_label place P5) (cond exit P6 P10) place

-- the word that is told: the variables noted; 'both are 0 except from H21 to P20'
abbrev pub noted_at : Label → ℕ → ℕ
noted_at label mask = cond (label_row label).noting mask 0

-- what is told of an access: the word is that of its process after it, and the count is the count of ones of the word
abbrev pub report_with : Label → Cell → Swap → ℕ → ℕ → Report
report_with label cell swap number mask =
    record {
      label = label;
      cell = cell;
      swap = swap;
      number = number;
      noted = noted_at label mask;
      count = ones (noted_at label mask);
    }

-- the access of an accepted step of process i. 'The gate number it last read in that operation, this step included, 0 if none yet': it is that
-- of the gate last read, as P1, which reads the gate, is the first access of every operation (`numbers` in specs/Paths)
unfoldable pub report_of : Card → ℕ → Report
report_of c i =
    let l = local_at c i in
    let after = local_at (advance c i) i in
    report_with (label_of l.control.place l.exit) (touched_cell c i) (swap_of c i) after.gate.seq after.mask

-- no access
abbrev pub no_report : Report
no_report = record { label = Label.Idle; cell = Cell.None; swap = Swap.None; number = 0; noted = 0; count = 0 }

-- `trace`: the card and the answer are those of `step`, with its refusals; an accepted step has its report, a refused one has none
unfoldable pub trace : Card → ℕ → Traced
trace c i =
    let r = step c i in
    record { card = r.card; answer = r.answer; report = cond (is_refused r.answer) no_report (report_of c i) }

-- without its report
abbrev pub untold : Traced → Answered
untold r = record { card = r.card; answer = r.answer }

-- 'except from H21 to P20': the accesses of helping from its first read of a record on, by the paper's labels in their sequence. This list is no part
-- of what computes a report (`label_row`)
pub data FromH21ToP20 : Label → Type 0 where
  at-H21 : FromH21ToP20 Label.H21
  at-H36 : FromH21ToP20 Label.H36
  at-P19 : FromH21ToP20 Label.P19
  at-P20 : FromH21ToP20 Label.P20

-- what the word and the count of a report say of the dictionary after the access: from H21 to P20 the word is the set of the variables noted
-- there and the count is its length; at every other label both are 0
pub record TellsNoted (c : Card) (i : ℕ) : Type 0 where
  pub noting : FromH21ToP20 (report_of c i).label → Marks (report_of c i).noted (local_at (advance c i) i).dictionary
  pub count : FromH21ToP20 (report_of c i).label → (report_of c i).count ≡ (local_at (advance c i) i).dictionary.length
  pub silent : (FromH21ToP20 (report_of c i).label → ⊥) → ((report_of c i).noted ≡ 0) × ((report_of c i).count ≡ 0)
