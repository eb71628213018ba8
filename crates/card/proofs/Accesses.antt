-- What each access leaves: the card that code puts together from the pieces that changed is that of an accepted step.
use Rattle.std.proofs.Common.{◌≡◌, ℕ, ◌+◌, ◌%◌, ◌<◌, Bool, true, false, cond, ltb, List, [], get_or, set, refl, sym, ◌∙◌, mod-eq_of_lt, arith, get_or-set_same, ltb-false, ltb-true}
use Rattle.std.specs.Prelude.{Option, Some, None, Result, Ok, Err}
use Rattle.std.specs.Option.{is_some, ok_or}
use lib.ListN.{get_or-eq_default}
use lib.Seq.{set-get_or}
use Rattle.opening.proofs.Laws.{inside}
use Rattle.construction.specs.declared.{cells.Gate.Gate, cells.Words.Words, cells.Announcement.Announcement, cells.Record.Record, programs.Program.Program}
use Rattle.construction.specs.declared.{simulations.Dictionary.Dictionary, simulations.Simulation.Simulation, accesses.GateAccess.GateAccess}
use Rattle.construction.specs.declared.{accesses.AnnouncementAccess.AnnouncementAccess, accesses.Access.Access, accesses.Control.Control}
use Rattle.construction.specs.declared.{accesses.AccessedCell.AccessedCell, accesses.Begun.Begun}
use Rattle.construction.specs.declared.{accesses.Helped.Helped, accesses.Writing.Writing, card.Card.Card, answers.Answer.Answer}
use Rattle.construction.specs.declared.cells.SwappedCell.{SwappedCell}
use Rattle.construction.specs.declared.accesses.Label.TheVariants.{P1, P21}
use Rattle.construction.specs.Cells.{open_announcement, open_record}
use Rattle.construction.specs.Instructions.{no_program}
use Rattle.construction.specs.Dictionary.{empty}
use Rattle.construction.specs.Parts.{Local, idle_control, local_at, texts_of, program_of, with_cells, with_gate, with_own, with_local, with_steps}
use Rattle.construction.specs.Machine.{access_of, access_in, after, access_gate, access_announcement, whose, holder_of, go_to, begin_help, begun_from, note, writing, write}
use Rattle.construction.specs.Machine.{written_variable, perform, advance}
use Rattle.construction.specs.Requests.{invoked, exiting, step_answer}
use Rattle.requests.proofs.Arrays.{FullArrays, found}
use Rattle.card.proofs.Requests.{stepped_at}

-- the text that code takes out: the one of the number last read (document 02, order 11), past the room the empty program
pub text_found :
    (c : Card) → FullArrays c → (k number : ℕ) (d x y : Program) →
    x ≡ cond (ltb number (get_or c.from (k % 8) 0)) (get_or c.earlier (k % 8) d) (get_or c.later (k % 8) d) →
    y ≡ cond (ltb k 8) x no_program → y ≡ program_of (texts_of c) k number
unfolding program_of
text_found c full k number d x y ex ey = ey ∙ go (ltb k 8) refl
  where
    either : (b : Bool) → no_program ≡ cond b no_program no_program
    either true = refl
    either false = refl

    go : (b : Bool) → ltb k 8 ≡ b → cond b x no_program ≡ program_of (texts_of c) k number
    go true q =
        let h = ltb-true k 8 q in
        rw (ex, mod-eq_of_lt h, inside c.earlier k d no_program (rw full.earlier h), inside c.later k d no_program (rw full.later h))
    go false q =
        let h = ltb-false k 8 q in
        rw (get_or-eq_default c.earlier no_program {n = k} (rw full.earlier h), get_or-eq_default c.later no_program {n = k} (rw full.later h))
        (either (ltb number (get_or c.from k 0)))

-- a call and an exit request leave the rest of a process as it was
module _ (c : Card) (i : ℕ) where
  pub called :
      (k : ℕ) (inputs : Words) → i < 8 →
      with_own c (set c.controls (i % 8) (record { place = P1; target = 0 })) (set c.operations (i % 8) (record { program = k; inputs = inputs }))
      (set c.exits (i % 8) false) (set c.counts (i % 8) 0) c.gates_read c.announcements_read c.simulations c.dictionaries c.masks
      ≡ with_local c i (invoked (local_at c i) k inputs)
  called k inputs p =
      simp (mod-eq_of_lt p, set-get_or)

  pub asked :
      i < 8 →
      with_own c c.controls c.operations (set c.exits (i % 8) true) c.counts c.gates_read c.announcements_read c.simulations c.dictionaries
      c.masks
      ≡ with_local c i (exiting (local_at c i))
  asked p =
      simp (mod-eq_of_lt p, set-get_or)

-- what a helper begins with, or else goes on at
of_ok : (o : Option Begun) (e : Control) (x : Begun) → ok_or o e ≡ Ok x → o ≡ Some x
of_ok o e x p = grind arith

of_err : (o : Option Begun) (e x : Control) → ok_or o e ≡ Err x → (o ≡ None) × (x ≡ e)
of_err o e x p = grind arith

-- a step of process i that is accepted: n is the count of steps after it, m that of the process's own, and a is its access
pub record Accepted (c : Card) (i n m : ℕ) (a : Access) : Type 0 where
  pub full_arrays : FullArrays c
  pub process : i < 8
  pub counted : n ≡ (c.steps + 1) % 18446744073709551616
  pub own : m ≡ ((local_at c i).steps + 1) % 18446744073709551616
  pub chosen : a ≡ access_of (local_at c i).control.place (local_at c i).exit

module _ {c : Card} {i n m : ℕ} {a : Access} (h : Accepted c i n m a) where
  abbrev l : Local
  l = local_at c i

  -- the cells and the process after an access, and the answer
  stepped :
      (g : Gate) (announcements : List Announcement) (records : List Record) (control : Control) (gate : Gate) (b : Announcement) (s : Simulation)
      (d : Dictionary) (mask : ℕ) →
      (perform (access_in l) c i).card ≡ with_local (with_cells c g announcements records) i (after l control gate b s d mask) →
      (t : Answer) → t ≡ step_answer control.place b m →
      record { card = with_steps (with_local (with_cells c g announcements records) i (after l control gate b s d mask)) n; answer = t } ≡ stepped_at c i
  unfolding advance
  stepped g announcements records control gate b s d mask performed t answered =
      rw (
        performed,
        ← h.own,
        ← h.counted,
        get_or-set_same c.controls i control idle_control (omega (arith, h.process, h.full_arrays.controls)),
        get_or-set_same c.counts i m 0 (omega (arith, h.process, h.full_arrays.counts)),
        get_or-set_same c.announcements_read i b open_announcement (omega (arith, h.process, h.full_arrays.announcements_read)),
        answered,
      )

  -- the dictionary that code takes out
  own_dictionary : get_or c.dictionaries i (record { length = 0; items = [] }) ≡ (local_at c i).dictionary
  own_dictionary = inside c.dictionaries i (record { length = 0; items = [] }) empty (omega (arith, h.process, h.full_arrays.dictionaries))

  module _ (t : Answer) where
    -- what code leaves: other cells, both counts, and the arrays that the access alters
    abbrev left : Card → List Control → List Gate → List Announcement → List Simulation → List Dictionary → List ℕ → Type 0
    left d controls gates_read announcements_read simulations dictionaries masks =
        record {
          card = with_steps (with_own d controls c.operations c.exits (set c.counts i m) gates_read announcements_read simulations dictionaries masks) n;
          answer = t;
        }
        ≡ stepped_at c i

    pub at_none :
        a ≡ Access.None → t ≡ step_answer (local_at c i).control.place (local_at c i).announcement m →
        left c c.controls c.gates_read c.announcements_read c.simulations c.dictionaries c.masks
    unfolding perform
    at_none e told =
        rw (← h.own) at
        (simp set-get_or at
        (stepped c.gate c.announcements c.records (local_at c i).control (local_at c i).gate (local_at c i).announcement
        (local_at c i).simulation (local_at c i).dictionary (local_at c i).mask
        (rw (← h.chosen, e)) t told))

    pub at_gate_lem :
        (b : GateAccess) → a ≡ Access.Gate b → (r : AccessedCell Gate) → r ≡ access_gate b i c.gate (local_at c i).gate (local_at c i).control →
        t ≡ step_answer r.control.place (local_at c i).announcement m →
        left (with_gate c r.cell) (set c.controls i r.control) (set c.gates_read i r.read) c.announcements_read c.simulations
        c.dictionaries c.masks
    unfolding perform
    at_gate_lem b e r er told =
        rw (← h.own) at
        (simp set-get_or at
        (stepped r.cell c.announcements c.records r.control r.read (local_at c i).announcement (local_at c i).simulation
        (local_at c i).dictionary (local_at c i).mask
        (rw (← h.chosen, e, ← er)) t told))

    pub at_announcement_lem :
        (b : AnnouncementAccess) → a ≡ Access.Announcement b → (k : ℕ) → k ≡ whose b c.process_count i (local_at c i).gate →
        (cell : Announcement) → cell ≡ cond (ltb k 8) (get_or c.announcements (k % 8) open_announcement) open_announcement →
        (r : AccessedCell Announcement) → r ≡ access_announcement b k cell (local_at c i).operation (local_at c i).gate (local_at c i).announcement
        (local_at c i).simulation.yields (local_at c i).control →
        t ≡ step_answer r.control.place r.read m → (row : List Announcement) → row ≡ set c.announcements k r.cell →
        left (with_cells c c.gate row c.records) (set c.controls i r.control) c.gates_read (set c.announcements_read i r.read)
        c.simulations c.dictionaries c.masks
    unfolding perform
    at_announcement_lem b e k ek cell ec r er told row stored =
        rw (← stored, ← h.own) at
        (simp set-get_or at
        (stepped c.gate (set c.announcements k r.cell) c.records r.control (local_at c i).gate r.read (local_at c i).simulation
        (local_at c i).dictionary (local_at c i).mask
        (rw (← h.chosen, e, ← ek, ← found c.announcements 8 h.full_arrays.announcements k open_announcement open_announcement cell ec, ← er)) t told))

    at_help :
        a ≡ Access.Help → (k : ℕ) → k ≡ holder_of (local_at c i).gate.holder →
        (cell : Announcement) → cell ≡ cond (ltb k 8) (get_or c.announcements (k % 8) open_announcement) open_announcement →
        (program : Program) → program ≡ program_of (texts_of c) cell.program (local_at c i).gate.seq →
        (began : Option Begun) → began ≡ begin_help c.variable_count program cell (local_at c i).gate.seq →
        let r = begun_from (local_at c i).control (local_at c i).simulation began in
        t ≡ step_answer r.control.place cell m → (ds : List Dictionary) → ds ≡ set c.dictionaries i (cond (is_some began) empty (local_at c i).dictionary) →
        (masks : List ℕ) → masks ≡ set c.masks i (cond (is_some began) 0 (local_at c i).mask) →
        left c (set c.controls i r.control) c.gates_read (set c.announcements_read i cell) (set c.simulations i r.simulation) ds masks
    unfolding perform
    at_help e k ek cell ec program ep began er told ds stored masks marked =
        let announced = found c.announcements 8 h.full_arrays.announcements k open_announcement open_announcement cell ec in
        let r = begun_from (local_at c i).control (local_at c i).simulation began in
        rw (← stored, ← marked, ← h.own) at
        (simp set-get_or at
        (stepped c.gate c.announcements c.records r.control (local_at c i).gate cell r.simulation
        (cond (is_some began) empty (local_at c i).dictionary) (cond (is_some began) 0 (local_at c i).mask)
        (rw (← h.chosen, e, ← ek, ← announced, ← ep, ← er, announced, set-get_or c.announcements k open_announcement)) t told))

    -- the program begins, or there is nothing to help
    pub at_begun :
        a ≡ Access.Help → (k : ℕ) → k ≡ holder_of (local_at c i).gate.holder →
        (cell : Announcement) → cell ≡ cond (ltb k 8) (get_or c.announcements (k % 8) open_announcement) open_announcement →
        (program : Program) → program ≡ program_of (texts_of c) cell.program (local_at c i).gate.seq →
        (began : Result Begun Control) → began ≡ ok_or (begin_help c.variable_count program cell (local_at c i).gate.seq) (go_to (local_at c i).control P21) →
        (r : Begun) → began ≡ Ok r → t ≡ step_answer r.control.place cell m → (ds : List Dictionary) → ds ≡ set c.dictionaries i empty →
        left c (set c.controls i r.control) c.gates_read (set c.announcements_read i cell) (set c.simulations i r.simulation) ds (set c.masks i 0)
    at_begun e k ek cell ec program ep began er r is told ds stored =
        at_help e k ek cell ec program ep (Some r) (sym (of_ok _ _ _ (sym er ∙ is))) told ds stored (set c.masks i 0) refl

    pub at_passed :
        a ≡ Access.Help → (k : ℕ) → k ≡ holder_of (local_at c i).gate.holder →
        (cell : Announcement) → cell ≡ cond (ltb k 8) (get_or c.announcements (k % 8) open_announcement) open_announcement →
        (program : Program) → program ≡ program_of (texts_of c) cell.program (local_at c i).gate.seq →
        (began : Result Begun Control) → began ≡ ok_or (begin_help c.variable_count program cell (local_at c i).gate.seq) (go_to (local_at c i).control P21) →
        (passed : Control) → began ≡ Err passed → t ≡ step_answer passed.place cell m →
        left c (set c.controls i passed) c.gates_read (set c.announcements_read i cell) c.simulations c.dictionaries c.masks
    at_passed e k ek cell ec program ep began er passed is told =
        let none = of_err _ _ _ (sym er ∙ is) in
        rw none.1
        (simp set-get_or at
        (at_help e k ek cell ec program ep None (sym none.0) (rw none.1 at told) c.dictionaries (sym (set-get_or c.dictionaries i _)) c.masks
        (sym (set-get_or c.masks i _))))

    pub at_note :
        a ≡ Access.Note →
        (cell : Record) → cell ≡ cond (ltb (local_at c i).control.target 64) (get_or c.records ((local_at c i).control.target % 64) (open_record 0))
        (open_record 0) →
        (program : Program) → program ≡ program_of (texts_of c) (local_at c i).announcement.program (local_at c i).gate.seq →
        (r : Helped) → r ≡ note c.variable_count program (local_at c i).announcement.words cell (local_at c i).gate.seq (local_at c i).control
        (local_at c i).simulation (get_or c.dictionaries i (record { length = 0; items = [] })) (local_at c i).mask →
        t ≡ step_answer r.control.place (local_at c i).announcement m →
        left c (set c.controls i r.control) c.gates_read c.announcements_read (set c.simulations i r.simulation)
        (set c.dictionaries i r.dictionary) (set c.masks i r.mask)
    unfolding perform
    at_note e cell ec program ep r er told =
        let v = (local_at c i).control.target in
        let read = found c.records 64 h.full_arrays.records v (open_record 0) (open_record 0) cell ec in
        let noted = rw own_dictionary at er in
        rw (← h.own) at
        (simp set-get_or at
        (stepped c.gate c.announcements c.records r.control (local_at c i).gate (local_at c i).announcement r.simulation
        r.dictionary r.mask
        (rw (← h.chosen, e, ← read, ← ep, ← noted, read, set-get_or c.records v (open_record 0))) t told))

    pub at_write :
        a ≡ Access.Write →
        (w : Writing) → w ≡ writing (local_at c i).gate.seq (local_at c i).control (get_or c.dictionaries i (record { length = 0; items = [] })) →
        (cell : Record) → cell ≡ cond (ltb w.item.variable 64) (get_or c.records (w.item.variable % 64) (open_record 0)) (open_record 0) →
        (r : SwappedCell Record) → r ≡ write cell w.item (local_at c i).gate.seq →
        t ≡ step_answer w.control.place (local_at c i).announcement m → (row : List Record) → row ≡ set c.records w.item.variable r.cell →
        left (with_cells c c.gate c.announcements row) (set c.controls i w.control) c.gates_read c.announcements_read c.simulations
        c.dictionaries c.masks
    unfolding perform
    at_write e w ew cell ec r er told row stored =
        let read = found c.records 64 h.full_arrays.records w.item.variable (open_record 0) (open_record 0) cell ec in
        let written = rw own_dictionary at ew in
        rw (← stored, ← h.own) at
        (simp set-get_or at
        (stepped c.gate c.announcements (set c.records w.item.variable r.cell) w.control (local_at c i).gate
        (local_at c i).announcement (local_at c i).simulation (local_at c i).dictionary (local_at c i).mask
        (rw (← h.chosen, e, written_variable, ← written, ← read, ← er)) t told))
