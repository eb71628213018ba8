-- A step that is traced: its report by what code reads off the card
use Prim.Native.Nat.{ℕ, ◌%◌, ◌<◌}
use mathlib.Core.Bool.{Bool, true, false, cond, not, true≢false}
use mathlib.Core.List.{[]}
use mathlib.Core.Path.{◌≡◌, refl, sym, ap, ◌∙◌}
use native.Mathlib.Nat.{mod-eq_of_lt}
use native.Mathlib.Omega.{arith}
use lib.Dec.{ltb}
use lib.ListN.{get_or}
use Rattle.opening.proofs.Laws.{inside}
use Rattle.construction.specs.declared.{cells.Announcement.Announcement, cells.Record.Record, accesses.Access.Access, accesses.Cell.Cell, accesses.Swap.Swap}
use Rattle.construction.specs.declared.{accesses.Writing.Writing, card.Card.Card, answers.Refusal.Refusal, answers.Answered.Answered, accesses.Label.Label}
use Rattle.construction.specs.declared.{answers.Report.Report, answers.Traced.Traced}
use Rattle.construction.specs.declared.answers.Refusal.TheVariants.{NoProcess, NotBusy, LimitReached}
use Rattle.construction.specs.Cells.{open_announcement, open_record}
use Rattle.construction.specs.Dictionary.{empty}
use Rattle.construction.specs.Parts.{no_gate, local_at}
use Rattle.construction.specs.Machine.{access_of, access_in, cell_by, writing, advance, swap_of}
use Rattle.construction.specs.OneAccess.{touched_cell}
use Rattle.construction.specs.Requests.{is_process, is_idle, refused, step}
use Rattle.construction.specs.Answers.{is_refused}
use Rattle.construction.specs.Tracing.{label_of, report_with, report_of, no_report, trace}
use Rattle.reports.specs.Swaps.{announcement_in, record_in, swap_by}
use Rattle.reports.proofs.Swaps.{swap_is}
use Rattle.card.proofs.Requests.{stepped_at}
use Rattle.requests.proofs.Arrays.{FullArrays, found, in_room}

-- a step that is not refused passed its three tests
module _ (c : Card) (r s t : Refusal) where
  unrefused :
      (a b d : Bool) (y : Answered) →
      is_refused (cond (not a) (refused c r) (cond (not b) (refused c s) (cond (not d) (refused c t) y))).answer ≡ false →
      (a ≡ true) × (cond (not a) (refused c r) (cond (not b) (refused c s) (cond (not d) (refused c t) y)) ≡ y)
  unrefused false b d y h = absurd (true≢false h)
  unrefused true false d y h = absurd (true≢false h)
  unrefused true true false y h = absurd (true≢false h)
  unrefused true true true y h = (refl, refl)

accepted : (c : Card) (i : ℕ) → is_refused (step c i).answer ≡ false → (i < 8) × (step c i ≡ stepped_at c i)
unfolding step
accepted c i h =
    let p = unrefused c NoProcess NotBusy LimitReached (is_process c i) (not (is_idle (local_at c i).control.place)) (ltb c.steps c.limit) (stepped_at c i)
    h in
    (in_room i c.process_count 8 p.0, p.1)

-- the next access of process i as code reads it off the card: label, access, what is to be written, the cell and what stands there
pub record AccessRead (c : Card) (i : ℕ) (label : Label) (a : Access) (w : Writing) (x : Cell) (m v : ℕ) (b : Announcement) (r : Record) (s : Swap) : Type 0 where
  pub labelled : label ≡ label_of (local_at c i).control.place (local_at c i).exit
  pub chosen : a ≡ access_of (local_at c i).control.place (local_at c i).exit
  pub writes : w ≡ writing (local_at c i).gate.seq (local_at c i).control (get_or c.dictionaries i (record { length = 0; items = [] }))
  pub touches : x ≡ cell_by a c.process_count i (local_at c i).gate (local_at c i).control.target w.item.variable
  pub process : m ≡ announcement_in x
  pub variable : v ≡ record_in x
  pub announced : b ≡ cond (ltb m 8) (get_or c.announcements (m % 8) open_announcement) open_announcement
  pub recorded : r ≡ cond (ltb v 64) (get_or c.records (v % 64) (open_record 0)) (open_record 0)
  pub swaps :
      s
      ≡ swap_by a i m c.gate b r (local_at c i).gate (local_at c i).announcement (local_at c i).operation (local_at c i).simulation.yields
      (local_at c i).control w.item

module _ {c : Card} {i : ℕ} {label : Label} {a : Access} {w : Writing} {x : Cell} {m v : ℕ} {b : Announcement} {r : Record} {s : Swap}
    (R : FullArrays c) (lt : i < 8) (p : AccessRead c i label a w x m v b r s) where
  own_dictionary : get_or c.dictionaries i (record { length = 0; items = [] }) ≡ (local_at c i).dictionary
  own_dictionary = inside c.dictionaries i (record { length = 0; items = [] }) empty (omega (arith, R.dictionaries))

  written_is : w ≡ writing (local_at c i).gate.seq (local_at c i).control (local_at c i).dictionary
  written_is = rw own_dictionary at p.writes

  touched_is : x ≡ touched_cell c i
  touched_is = p.touches ∙ rw (p.chosen, written_is)

  swap_told : s ≡ swap_of c i
  unfolding swap_of
  swap_told =
      p.swaps
      ∙ rw (
        found c.announcements 8 R.announcements m open_announcement open_announcement b p.announced,
        found c.records 64 R.records v (open_record 0) (open_record 0) r p.recorded,
        p.process,
        p.variable,
        touched_is,
        p.chosen,
        written_is,
      ) (sym (swap_is c i (access_in (local_at c i))))

  report_is :
      report_with label x s (get_or (advance c i).gates_read i no_gate).seq (get_or (advance c i).masks i 0) ≡ report_of c i
  unfolding report_of
  report_is = rw (p.labelled, touched_is, swap_told)

-- what code gives
pub trace_is :
    (c : Card) (i : ℕ) → FullArrays c → {label : Label} {a : Access} {w : Writing} {x : Cell} {m v : ℕ} {b : Announcement} {r : Record} {s : Swap} →
    AccessRead c (i % 8) label a w x m v b r s → (y : Answered) → y ≡ step c i →
    (t : Report) → t ≡ cond (is_refused y.answer) no_report
    (report_with label x s (get_or y.card.gates_read (i % 8) no_gate).seq (get_or y.card.masks (i % 8) 0)) →
    ◌≡◌ {A = Traced} (record { card = y.card; answer = y.answer; report = t }) (trace c i)
unfolding trace
trace_is c i R {label} {a} {w} {x} {m} {v} {b} {r} {s} p y e t told = rw (told, e) (go (is_refused (step c i).answer) refl)
  where
    go :
        (q : Bool) → is_refused (step c i).answer ≡ q →
        ◌≡◌ {A = Traced}
        (record {
          card = (step c i).card;
          answer = (step c i).answer;
          report =
              cond q no_report (report_with label x s (get_or (step c i).card.gates_read (i % 8) no_gate).seq (get_or (step c i).card.masks (i % 8) 0));
        })
        (record { card = (step c i).card; answer = (step c i).answer; report = cond q no_report (report_of c i) })
    go true h = refl
    go false h =
        let z = accepted c i h in
        let same : i % 8 ≡ i = mod-eq_of_lt z.0 in
        let q : AccessRead c i label a w x m v b r s = rw same at p in
        ap (λ (u : Report). record { card = (step c i).card; answer = (step c i).answer; report = u })
        (rw (same, ap (λ (n : Answered). n.card) z.1) (report_is R z.0 q))
