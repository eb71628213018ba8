-- Over every list of entries the accesses of each operation, by `step` or by `trace`, are a path that the numbered lines allow (specs/Paths).
use Prim.Native.Nat.{ℕ, suc, ◌≤◌, ◌<◌}
use mathlib.Core.Path.{◌≡◌, refl, sym, subst, ap, ◌∙◌}
use Rattle.std.specs.Prelude.{Option}
use mathlib.Core.Bool.{Bool, true, false, cond, not, ◌&&◌, true≢false}
use mathlib.Core.Logic.{◌≢◌, ◌⊎◌, inl, inr, ⊎_elim}
use mathlib.Core.List.{List, [], ◌∷◌}
use native.Mathlib.Omega.{arith}
use lib.Dec.{eqb, ltb}
use lib.ListN.{length}
use borrow.Author.Tests.{le-ltb, ltb-true, ltb-false, leb-true, leb-false, not-true, not-false, eqb-true, eqb-false}
use Rattle.std.specs.Prelude.{Option, None, Some}
use Rattle.construction.specs.Types.{Gate, Flag, Done, Active, Exit, Words, Announcement, Record, Program, Dictionary}
use Rattle.construction.specs.Types.{Simulation, Pause, Ended, Faulted, Lacks, Label, Idle, P1, P3, P5, P7, P10, C2, C4, P13, P14, P16, H21, H36, P19}
use Rattle.construction.specs.Types.{P20, P21, P22, F1, F3, P6, GateAccess, Access, Cell, Swap, Control, Begun, Helped, Card, Refusal, Answer, Answered}
use Rattle.construction.specs.Types.{Contents}
use Rattle.construction.specs.Cells.{is_done, same_holder, swap_gate, swap_announcement, swap_record, released}
use Rattle.construction.specs.Instructions.{started}
use Rattle.construction.specs.Dictionary.{empty, noted, insert, item_of, next_write}
use Rattle.construction.specs.Helping.{simulate}
use Rattle.construction.specs.Parts.{idle_control, Local, local_at, contents_of, announcement_at, record_at, program_of, with_local, Texts, texts_of}
use Rattle.construction.specs.Parts.{with_revision}
use Rattle.construction.specs.Machine.{access_of, access_gate, access_announcement, by_holder, by_flag, holder_of, first_choice, outcome, helps, after_pause}
use Rattle.construction.specs.Machine.{write_from, begin_help, begun_from, note, writing, written_variable, whose, cell_of, after, step_gate, step_announcement, step_help}
use Rattle.construction.specs.Machine.{step_note, step_write, perform, advance, swap_of}
use Rattle.construction.specs.Requests.{is_idle, is_busy, is_program, invoked, exiting, returned, answer_of}
use Rattle.construction.specs.OneAccess.{SameText}
use Rattle.construction.specs.Changes.{has_read, is_unsettled}
use Rattle.construction.specs.Tracing.{label_of, report_of}
use Rattle.construction.specs.Opening.{fresh, opened}
use Rattle.construction.specs.History.{Event, event_of, Entry, act, Steps, Observation, observe, observe_all, opening, run}
use Rattle.construction.specs.Paths.{Found, found_in, Help, help_of, Made, made, Edge, End, Leads, Path, Whole, number_in, unless_swap, last_number, help_after}
use Rattle.construction.specs.Paths.{help_in, Due, after_write, due_of, due_after, due_in, Comes, FromH21ToP19, Follows, Noticed, unnoticed, if_taken, noticed}
use Rattle.construction.specs.Paths.{noticed_from, accesses}
use Rattle.construction.proofs.Basics.{on_test, cond_true, cond_false, true_or_false, and_true, and_false, clash, nobody_process, active_not_done}
use Rattle.construction.proofs.Basics.{exit_not_done, active_not_exit, is_done-true, is_done-false, same_holder-true, same_holder-refl, true_false}
use Rattle.construction.proofs.Basics.{get_or_replicate_same}
use Rattle.construction.proofs.Simulating.Simulations.{simulate_empty}
use Rattle.construction.proofs.Invariant.World.{World, Frame, frame_of}
use Rattle.construction.proofs.Invariant.Locals.{Sizes, local_same, local_other}
use Rattle.construction.proofs.Invariant.Assertions.{LocAt, known}
use Rattle.construction.proofs.Invariant.Cards.{CardInvariant, gate_is, inv_step}
use Rattle.construction.proofs.Invariant.Changing.{chosen_kept}
use Rattle.construction.proofs.Observing.Outcomes.{Outcome, outcome as outcome-of}
use Rattle.construction.proofs.Observing.Consistency.{Consistent, entry_kept}
use Rattle.construction.proofs.Observing.Runs.{opened_consistent}
use Rattle.construction.proofs.Statements.Tracing.{answers}
use Rattle.construction.proofs.Statements.OneAccess.{one_access}
use Rattle.construction.proofs.Statements.HelpPaths.{HelpAt, help_same, write_due, begin_due, note_due}
use Rattle.construction.proofs.Simulating.Sequential.{Short}

-- how an operation returns whose process last read this announcement
abbrev settled : Announcement → Event
settled a = event_of (returned a a.flag 0)

-- an access with this label, swap and finding leads on to a place, whatever wish its process has there; or the operation returns
module _ (i number : ℕ) (label : Label) (s : Swap) (f : Found) (last : Announcement) where
  abbrev Toward : Label → Type 0
  Toward l = (wish : Bool) → Edge i number label s f wish (label_of l wish)

  abbrev OntoBy : Bool → Label → Type 0
  OntoBy true l = End i label s f (settled last)
  OntoBy false l = Toward l

  abbrev Onto : Label → Type 0
  Onto l = OntoBy (is_idle l) l

-- the test of line P17
helps_true : (a : Announcement) (number : ℕ) → helps a number ≡ true → (a.flag ≢ Done) × (a.seq ≤ number)
helps_true a number e =
    let h = and_true (not (is_done a.flag)) _ e in
    (is_done-false _ (not-true _ h.0), leb-true _ _ h.1)

helps_false : (a : Announcement) (number : ℕ) → helps a number ≡ false → (a.flag ≡ Done) ⊎ (number < a.seq)
helps_false a number e =
    ⊎_elim (λ h. inl (is_done-true _ (not-false _ h))) (λ h. inr (leb-false _ _ h.1)) (and_false (not (is_done a.flag)) _ e)

-- the choices that the lines make, with what was asked
module _ (Q : Label → Type 0) where
  on_holder : (h : Option ℕ) (held free : Label) → (h ≢ None → Q held) → (h ≡ None → Q free) → Q (by_holder h held free)
  on_holder None held free a b = b refl
  on_holder (Some m) held free a b = a (λ e. nobody_process e refl)

  on_flag :
      (f : Flag) (done active exit : Label) → (f ≡ Done → Q done) → (f ≡ Active → Q active) → (f ≡ Exit → Q exit) →
      Q (by_flag f done active exit)
  on_flag Done done active exit a b c = a refl
  on_flag Active done active exit a b c = b refl
  on_flag Exit done active exit a b c = c refl

  on_write : (seq : ℕ) (d : Dictionary) (k : ℕ) → Q H36 → Q P19 → Q (write_from seq d k).place
  on_write seq d k a b = on_test (λ (x : Control). Q x.place) (ltb (next_write seq d k) (length (noted d))) (λ _. a) (λ _. b)

  on_pause : (seq : ℕ) (d : Dictionary) (p : Pause) → Q H21 → Q H36 → Q P19 → Q (after_pause seq d p).place
  on_pause seq d Ended a b c = on_write seq d 0 b c
  on_pause seq d Faulted a b c = c
  on_pause seq d (Lacks v) a b c = a

  -- a program that begins has noted nothing, so it has nothing to write
  on_beginning : (seq : ℕ) (d : Dictionary) → d ≡ empty → (p : Pause) → Q H21 → Q P19 → Q (after_pause seq d p).place
  on_beginning seq d e Ended a b = rw (e, le-ltb (next_write seq empty 0) 0 (omega arith)) b
  on_beginning seq d e Faulted a b = b
  on_beginning seq d e (Lacks v) a b = a

  on_help :
      (n : ℕ) (program : Program) (a : Announcement) (number : ℕ) (t : Control) (s : Simulation) →
      (a.flag ≢ Done → a.seq ≤ number → Q H21 × Q P19) → ((a.flag ≡ Done) ⊎ (number < a.seq) → Q P21) →
      Q (begun_from t s (begin_help n program a number)).control.place
  unfolding begin_help
  on_help n program a number t s f g =
      let x = simulate n program a.words started empty in
      on_test (λ (b : Option Begun). Q (begun_from t s b).control.place) (helps a number)
      (λ e.
      let h = helps_true a number e in
      let y = f h.0 h.1 in
      on_beginning number x.dictionary (simulate_empty n program a.words) x.pause y.0 y.1)
      (λ e. g (helps_false a number e))

  on_note :
      (n : ℕ) (program : Program) (inputs : Words) (r : Record) (number : ℕ) (t : Control) (s : Simulation) (d : Dictionary) (mask : ℕ) →
      (number < r.seq → Q P19) → (r.seq ≤ number → Q H21 × Q H36 × Q P19) → Q (note n program inputs r number t s d mask).control.place
  unfolding note
  on_note n program inputs r number t s d mask f g =
      let x = simulate n program inputs s (insert d (item_of number t.target r)) in
      on_test (λ (h : Helped). Q h.control.place) (ltb number r.seq) (λ e. f (ltb-true _ _ e))
      (λ e. let y = g (ltb-false _ _ e) in on_pause number x.dictionary x.pause y.0 y.1 y.2)

swapped : (won : Bool) → outcome won ≢ Swap.None
swapped true e = clash (cc)
swapped false e = clash (cc)

gate_swapped_lem : (cell g new : Gate) → outcome (swap_gate cell g new).won ≢ Swap.None
gate_swapped_lem cell g new = swapped (swap_gate cell g new).won

announcement_swapped_lem : (cell a new : Announcement) → outcome (swap_announcement cell a new).won ≢ Swap.None
announcement_swapped_lem cell a new = swapped (swap_announcement cell a new).won

record_swapped_lem : (cell r new : Record) → outcome (swap_record cell r new).won ≢ Swap.None
record_swapped_lem cell r new = swapped (swap_record cell r new).won

-- a swap tells nothing of the gate's number, and what is no gate has none
unread : {A : Type 0} (won : Bool) (x n : A) → unless_swap (outcome won) x n ≡ n
unread true x n = refl
unread false x n = refl

as_before : (s : Swap) (n : ℕ) → unless_swap s n n ≡ n
as_before Swap.None n = refl
as_before Swap.Lost n = refl
as_before Swap.Won n = refl

-- what a process knows of the announcement last read where it is about to return, and of its dictionary and the program that it runs where it reads one
-- record more
abbrev Returning : Label → Flag → Type 0
Returning p f = (p ≡ F1) ⊎ (p ≡ F3) → f ≡ Done

abbrev runs : Texts → Local → Program
runs x l = program_of x l.announcement.program l.gate.seq

abbrev Roomy : ℕ → Texts → Label → Local → Type 0
Roomy n x p l = p ≡ H21 → (l.dictionary.length < 32) × Short n (runs x l)

-- the top of the loop is no part of a helping
top_not_due : (exit : Bool) → FromH21ToP19 (label_of P5 exit) → ⊥
top_not_due true = elim [ ]
top_not_due false = elim [ ]

-- what it knows of its helping and of what is due there; nothing, where it has no operation
abbrev HelpOf : ℕ → Texts → Local → Help → Due → Type 0
HelpOf n x l h due = HelpAt n (runs x l) l.control.place l.control.target l.gate.seq l.announcement l.simulation l.dictionary h due

nothing_due : (n : ℕ) (y : Texts) (l : Local) (h : Help) (due : Due) → l.control ≡ idle_control → HelpOf n y l h due
nothing_due n y l h due e =
    subst (λ (x : Control). HelpAt n (runs y l) x.place x.target l.gate.seq l.announcement l.simulation l.dictionary h due) (sym e) tt

-- the access of process i at a place
module _ (c : Card) (i : ℕ) (Z : Sizes c) (lt : i < 8) where
  abbrev own : Local
  own = local_at c i

  abbrev found : Label → Bool → Found
  found p exit = found_in c (cell_of (access_of p exit) (contents_of c) i own)

  abbrev Lands : Label → Bool → Local → Type 0
  Lands p exit l =
      Onto i l.gate.seq (label_of p exit) (perform (access_of p exit) c i).swap (found p exit) l.announcement l.control.place

  -- the own state that an access leaves
  abbrev leaves : Access → Local
  leaves Access.None = after own own.control own.gate own.announcement own.simulation own.dictionary own.mask
  leaves (Access.Gate a) = (step_gate a i c.gate own).local
  leaves (Access.Announcement a) =
      let m = whose a c.process_count i own.gate in
      (step_announcement a m (announcement_at c m) own).local
  leaves Access.Help = (step_help c.variable_count (texts_of c) (announcement_at c (holder_of own.gate.holder)) own).local
  leaves Access.Note = (step_note c.variable_count (texts_of c) (record_at c own.control.target) own).local
  leaves Access.Write = (step_write (record_at c (written_variable own)) own).local

  left_is : (a : Access) → local_at (perform a c i).card i ≡ leaves a
  unfolding perform
  left_is Access.None = local_same c i _ Z lt
  left_is (Access.Gate a) = local_same c i _ Z lt
  left_is (Access.Announcement a) = local_same c i _ Z lt
  left_is Access.Help = local_same c i _ Z lt
  left_is Access.Note = local_same c i _ Z lt
  left_is Access.Write = local_same c i _ Z lt

  -- no access alters the exit request
  left_exit : (a : Access) → (leaves a).exit ≡ own.exit
  left_exit Access.None = refl
  left_exit (Access.Gate a) = refl
  left_exit (Access.Announcement a) = refl
  left_exit Access.Help = refl
  left_exit Access.Note = refl
  left_exit Access.Write = refl

  -- where a read of the gate leads to, and one of the announcement of process m
  abbrev GateRead : Label → Label → Type 0
  GateRead label = Onto i c.gate.seq label Swap.None (Found.gate c.gate) own.announcement

  abbrev AnnouncementRead : Label → ℕ → Label → Type 0
  AnnouncementRead label m =
      Onto i own.gate.seq label Swap.None (Found.announcement (announcement_at c m)) (announcement_at c m)

  -- an end, by the flag of the announcement last read
  abbrev Settles : Label → Swap → Found → Announcement → Flag → Type 0
  Settles label s f a flag = End i label s f (event_of (returned a flag 0))

  lands : (p : Label) (exit : Bool) → is_idle p ≡ false → Returning p own.announcement.flag → Lands p exit (leaves (access_of p exit))
  unfolding access_of perform access_gate access_announcement writing
  lands Idle exit n q = absurd (true≢false n)
  lands P1 exit n q =
      (on_holder (GateRead Label.P1) c.gate.holder P3 P3 (λ _ _. Edge.P1-P3) (λ _ _. Edge.P1-P3))
  lands P3 exit n q = top
    where
      top : (wish : Bool) → Edge i own.gate.seq Label.P3 Swap.None (found P3 exit) wish (cond wish Label.P6 Label.P10)
      top true = Edge.P3-P6
      top false = Edge.P3-P10
  lands P5 true n q = λ _. Edge.P6-P7 (announcement_swapped_lem _ _ _)
  lands P5 false n q =
      (on_holder (GateRead Label.P10) c.gate.holder P16 C2 (λ e _. Edge.P10-P16 e) (λ e _. Edge.P10-C2 e))
  lands P7 exit n q =
      (on_flag (AnnouncementRead Label.P7 i) (announcement_at c i).flag F1 P10 P10 (λ e _. Edge.P7-F1 e)
      (λ e _. Edge.P7-P10 (active_not_done e)) (λ e _. Edge.P7-P10 (exit_not_done e)))
  lands P10 exit n q =
      (on_holder (GateRead Label.P10) c.gate.holder P16 C2 (λ e _. Edge.P10-P16 e) (λ e _. Edge.P10-C2 e))
  lands C2 exit n q =
      let m = first_choice own.gate.seq c.process_count in
      (on_flag (AnnouncementRead Label.C2 m) (announcement_at c m).flag C4 P13 C4 (λ e _. Edge.C2-C4 (λ z. active_not_done z e))
      (λ e _. Edge.C2-P13 e) (λ e _. Edge.C2-C4 (λ z. active_not_exit z e)))
  lands C4 exit n q =
      (on_flag (AnnouncementRead Label.C4 i) (announcement_at c i).flag F1 P13 P13 (λ e _. Edge.C4-F1 e)
      (λ e _. Edge.C4-P13 (active_not_done e)) (λ e _. Edge.C4-P13 (exit_not_done e)))
  lands P13 exit n q = λ _. Edge.P13-P14 (gate_swapped_lem _ _ _)
  lands P14 exit n q =
      (on_holder (GateRead Label.P14) c.gate.holder P16 P22 (λ e _. Edge.P14-P16 e) (λ e _. Edge.P14-P22 e))
  lands P16 exit n q =
      let m = holder_of own.gate.holder in
      (on_help (AnnouncementRead Label.P16 m) _ _ (announcement_at c m) own.gate.seq own.control own.simulation
      (λ e le. (λ _. Edge.P16-H21 e le, λ _. Edge.P16-P19 e le)) (λ e _. Edge.P16-P21 e))
  lands H21 exit n q =
      let r = record_at c own.control.target in
      (on_note (Onto i own.gate.seq Label.H21 Swap.None (Found.cell r) own.announcement) _ _ _ r own.gate.seq _ _ _ _
      (λ e _. Edge.H21-P19-late e) (λ le. (λ _. Edge.H21-H21 le, λ _. Edge.H21-H36 le, λ _. Edge.H21-P19 le)))
  lands H36 exit n q =
      (on_write (Onto i own.gate.seq Label.H36 _ (found H36 exit) own.announcement) own.gate.seq own.dictionary (suc own.control.target)
      (λ _. Edge.H36-H36 (record_swapped_lem _ _ _)) (λ _. Edge.H36-P19 (record_swapped_lem _ _ _)))
  lands P19 exit n q = λ _. Edge.P19-P20 (announcement_swapped_lem _ _ _)
  lands P20 exit n q = λ _. Edge.P20-P21 (announcement_swapped_lem _ _ _)
  lands P21 exit n q = λ _. Edge.P21-P22 (gate_swapped_lem _ _ _)
  lands P22 exit n q =
      (on_flag (AnnouncementRead Label.P22 i) (announcement_at c i).flag F1 P5 Idle (λ e _. Edge.P22-F1 e) top
      (λ e. subst (Settles Label.P22 Swap.None (Found.announcement (announcement_at c i)) (announcement_at c i)) (sym e) (End.P22 e)))
    where
      top : (announcement_at c i).flag ≡ Active → AnnouncementRead Label.P22 i P5
      top e true = Edge.P22-P6 e
      top e false = Edge.P22-P10 e
  lands F1 exit n q =
      (on_test (GateRead Label.F1) (same_holder c.gate.holder (Some i)) {x = F3} {y = Idle} (λ e _. Edge.F1-F3 (same_holder-true _ _ e))
      (λ e. subst (Settles Label.F1 Swap.None (Found.gate c.gate) own.announcement) (sym (q (inl refl))) (End.F1 (not_held e))))
    where
      not_held : same_holder c.gate.holder (Some i) ≡ false → c.gate.holder ≢ Some i
      not_held e z = true_false _ (rw z (same_holder-refl (Some i))) e
  lands F3 exit n q =
      subst (Settles Label.F3 (perform (access_of F3 exit) c i).swap (Found.gate c.gate) own.announcement) (sym (q (inr refl)))
      (End.F3 (gate_swapped_lem c.gate own.gate (released own.gate)))
  lands P6 exit n q = λ _. Edge.P6-P7 (announcement_swapped_lem _ _ _)

  -- the gate number last read: that of the gate where the access reads it, else the one read before
  abbrev number_after : Access → ℕ → ℕ
  number_after a n = unless_swap (perform a c i).swap (number_in (found_in c (cell_of a (contents_of c) i own)) n) n

  -- (the access of P1 reads the gate, where none was read before)
  number_is :
      (a : Access) (n : ℕ) → (a ≢ Access.Gate (GateAccess.Read P3 P3) → n ≡ own.gate.seq) → (leaves a).gate.seq ≡ number_after a n
  unfolding perform access_gate
  number_is Access.None n h = sym (h (λ e. clash (cc)))
  number_is (Access.Gate (GateAccess.Read held free)) n h = refl
  number_is (Access.Gate GateAccess.ReadLast) n h = refl
  number_is (Access.Gate GateAccess.Nominate) n h = sym (h (λ e. clash (cc))) ∙ sym (unread (swap_gate c.gate own.gate _).won _ n)
  number_is (Access.Gate (GateAccess.Release next)) n h = sym (h (λ e. clash (cc))) ∙ sym (unread (swap_gate c.gate own.gate _).won _ n)
  number_is (Access.Announcement a) n h = sym (h (λ e. clash (cc))) ∙ sym (as_before (perform (Access.Announcement a) c i).swap n)
  number_is Access.Help n h = sym (h (λ e. clash (cc)))
  number_is Access.Note n h = sym (h (λ e. clash (cc)))
  number_is Access.Write n h = sym (h (λ e. clash (cc))) ∙ sym (as_before (perform Access.Write c i).swap n)

  -- the helping, and what is due there, once the access is made
  abbrev help_after_lem : Label → Bool → Help → ℕ → Help
  help_after_lem p exit h number =
      help_after (found p exit) (perform (access_of p exit) c i).swap number (cell_of (access_of p exit) (contents_of c) i own)
      (help_of c number (found p exit)) h

  abbrev due_after_lem : Label → Bool → Help → Due → ℕ → Due
  due_after_lem p exit h due number = due_after (found p exit) (perform (access_of p exit) c i).swap number (due_of number (help_after_lem p exit h number)) due

  -- as it is known at a place, of the own state that an access leaves
  abbrev HelpNext : Label → Bool → Help → Due → Label → Type 0
  HelpNext p exit h due next =
      let l = leaves (access_of p exit) in
      HelpAt c.variable_count (runs (texts_of c) l) next l.control.target l.gate.seq l.announcement l.simulation l.dictionary
      (help_after_lem p exit h l.gate.seq) (due_after_lem p exit h due l.gate.seq)

  module _ (h : Help) (due : Due) where
    -- the access that is made was due
    was_due :
        (p : Label) (exit : Bool) →
        HelpAt c.variable_count (runs (texts_of c) own) p own.control.target own.gate.seq own.announcement own.simulation own.dictionary h due
        →
        FromH21ToP19 (label_of p exit) → Comes due (label_of p exit) (cell_of (access_of p exit) (contents_of c) i own)
    unfolding access_of writing
    was_due P5 exit q z = absurd (top_not_due exit z)
    was_due H21 exit q z = subst (λ (x : Due). Comes x Label.H21 (Cell.Record own.control.target)) (sym q.lacks) Comes.read
    was_due H36 exit q z = subst (λ (x : Due). Comes x Label.H36 (Cell.Record (written_variable own))) (sym q) Comes.write
    was_due P19 exit q z = subst (λ (x : Due). Comes x Label.P19 (Cell.Announcement (holder_of own.gate.holder))) (sym q) Comes.end
    was_due Idle exit q z = elim z [ ]
    was_due P1 exit q z = elim z [ ]
    was_due P3 exit q z = elim z [ ]
    was_due P7 exit q z = elim z [ ]
    was_due P10 exit q z = elim z [ ]
    was_due C2 exit q z = elim z [ ]
    was_due C4 exit q z = elim z [ ]
    was_due P13 exit q z = elim z [ ]
    was_due P14 exit q z = elim z [ ]
    was_due P16 exit q z = elim z [ ]
    was_due P20 exit q z = elim z [ ]
    was_due P21 exit q z = elim z [ ]
    was_due P22 exit q z = elim z [ ]
    was_due F1 exit q z = elim z [ ]
    was_due F3 exit q z = elim z [ ]
    was_due P6 exit q z = elim z [ ]

    -- what is due next is what the place it leads to does
    stays_due :
        (p : Label) (exit : Bool) → is_idle p ≡ false → Roomy c.variable_count (texts_of c) p own →
        HelpAt c.variable_count (runs (texts_of c) own) p own.control.target own.gate.seq own.announcement own.simulation own.dictionary h due
        →
        HelpNext p exit h due (leaves (access_of p exit)).control.place
    unfolding access_of perform access_gate access_announcement writing
    stays_due Idle exit n room q = absurd (true≢false n)
    stays_due P1 exit n room q = on_holder (HelpNext P1 exit h due) c.gate.holder P3 P3 (λ _. tt) (λ _. tt)
    stays_due P3 exit n room q = tt
    stays_due P5 true n room q = tt
    stays_due P5 false n room q = on_holder (HelpNext P5 false h due) c.gate.holder P16 C2 (λ _. tt) (λ _. tt)
    stays_due P7 exit n room q = on_flag (HelpNext P7 exit h due) (announcement_at c i).flag F1 P10 P10 (λ _. tt) (λ _. tt) (λ _. tt)
    stays_due P10 exit n room q = on_holder (HelpNext P10 exit h due) c.gate.holder P16 C2 (λ _. tt) (λ _. tt)
    stays_due C2 exit n room q =
        on_flag (HelpNext C2 exit h due) (announcement_at c (first_choice own.gate.seq c.process_count)).flag C4 P13 C4 (λ _. tt) (λ _. tt) (λ _. tt)
    stays_due C4 exit n room q = on_flag (HelpNext C4 exit h due) (announcement_at c i).flag F1 P13 P13 (λ _. tt) (λ _. tt) (λ _. tt)
    stays_due P13 exit n room q = tt
    stays_due P14 exit n room q = on_holder (HelpNext P14 exit h due) c.gate.holder P16 P22 (λ _. tt) (λ _. tt)
    stays_due P16 exit n room q =
        let a = announcement_at c (holder_of own.gate.holder) in
        begin_due c.variable_count (program_of (texts_of c) a.program own.gate.seq) own.gate.seq a own.control own.simulation own.dictionary
        _ refl
    stays_due H21 exit n room q =
        note_due c.variable_count (runs (texts_of c) own) own.gate.seq own.announcement own.control own.simulation own.dictionary own.mask h
        due
        (record_at c own.control.target) (room refl).1 (room refl).0 q
    stays_due H36 exit n room q =
        write_due c.variable_count (runs (texts_of c) own) own.gate.seq own.announcement (suc own.control.target) own.simulation
        own.dictionary _ _
        (unread (swap_record (record_at c (written_variable own)) _ _).won _ _ ∙ ap after_write q)
    stays_due P19 exit n room q = tt
    stays_due P20 exit n room q = tt
    stays_due P21 exit n room q = tt
    stays_due P22 exit n room q = on_flag (HelpNext P22 exit h due) (announcement_at c i).flag F1 P5 Idle (λ _. tt) (λ _. tt) (λ _. tt)
    stays_due F1 exit n room q = on_test (HelpNext F1 exit h due) (same_holder c.gate.holder (Some i)) (λ _. tt) (λ _. tt)
    stays_due F3 exit n room q = tt
    stays_due P6 exit n room q = tt

-- the edges to a place that is not idle, and the end at one that is
module _ (i number : ℕ) (label : Label) (s : Swap) (f : Found) (last : Announcement) where
  toward : (p : Label) → is_idle p ≡ false → Onto i number label s f last p → Toward i number label s f last p
  toward p e q = subst (λ (b : Bool). OntoBy i number label s f last b p) e q

  at_end_lem : (p : Label) → is_idle p ≡ true → Onto i number label s f last p → End i label s f (settled last)
  at_end_lem p e q = subst (λ (b : Bool). OntoBy i number label s f last b p) e q

-- the answer of a step, by the place and the flag that it leaves
event_settled : (a : Announcement) (f : Flag) (steps : ℕ) → event_of (returned a f steps) ≡ event_of (returned a f 0)
event_settled a Done steps = refl
event_settled a Active steps = refl
event_settled a Exit steps = refl

-- where the operation of process i stands, given the accesses that it made: it has none, is called, or is led on by its newest access
data Ready (i : ℕ) (l : Local) : List Made → Type 0 where
  idle : {ms : List Made} → is_idle l.control.place ≡ true → Ready i l ms
  called : l.control.place ≡ P1 → Ready i l []
  going :
      {m : Made} {ms : List Made} → m.answer ≡ Answer.Run →
      Onto i m.report.number m.report.label m.report.swap m.found l.announcement l.control.place →
      last_number (m ∷ ms) ≡ l.gate.seq → Ready i l (m ∷ ms)

-- what was noticed of the operation of process i follows the lines, it stands there, its helping is the one noticed, and the wish taken is the one
-- that its process keeps
record Stands (t : Contents) (x : Texts) (i : ℕ) (l : Local) (n : Noticed) : Type 0 where
  follows : Follows i n.accesses
  ready : Ready i l n.accesses
  helps : i < t.process_count → HelpOf t.variable_count x l (help_in n.accesses) (due_in n.accesses)
  wished : n.wish ≡ l.exit

-- one access more, at which a wish had been taken or not
module _ (c : Card) (i : ℕ) (Z : Sizes c) (lt : i < 8) (busy : is_idle (local_at c i).control.place ≡ false)
    (known : Returning (local_at c i).control.place (local_at c i).announcement.flag)
    (room : Roomy c.variable_count (texts_of c) (local_at c i).control.place (local_at c i)) (taken : Bool) (ms : List Made) where
  abbrev place : Label
  place = (local_at c i).control.place

  abbrev wish : Bool
  wish = (local_at c i).exit

  abbrev next : Local
  next = local_at (advance c i) i

  next_is : next ≡ leaves c i Z lt (access_of place wish)
  unfolding advance
  next_is = left_is c i Z lt (access_of place wish)

  landed : Lands c i Z lt place wish next
  landed = subst (Lands c i Z lt place wish) (sym next_is) (lands c i Z lt place wish busy known)

  -- the accesses before, and the new one
  numbered : (place ≡ P1) ⊎ (last_number ms ≡ (local_at c i).gate.seq) → (made c i taken).report.number ≡ last_number (made c i taken ∷ ms)
  unfolding made report_of last_number access_of swap_of
  numbered h =
      ap (λ (l : Local). l.gate.seq) next_is
      ∙ number_is c i Z lt (access_of place wish) (last_number ms)
      (λ other. ⊎_elim (λ (e : place ≡ P1). absurd (other (ap (λ (p : Label). access_of p wish) e))) (λ e. e) h)

  whole : Whole i (made c i taken ∷ ms)
  unfolding made report_of swap_of
  whole =
      ⊎_elim
      (λ (e : is_idle next.control.place ≡ true).
      inr
      (subst (End i (label_of place wish) (swap_of c i) (found c i Z lt place wish)) (sym (event e))
      (at_end_lem i next.gate.seq _ _ _ next.announcement next.control.place e landed)))
      (λ e. inl (cond_false (is_idle next.control.place) _ _ e))
      (true_or_false (is_idle next.control.place))
    where
      event : is_idle next.control.place ≡ true → event_of (answer_of next) ≡ settled next.announcement
      event e =
          ap event_of (cond_true (is_idle next.control.place) _ _ e)
          ∙ event_settled next.announcement next.announcement.flag next.steps

  ready : (place ≡ P1) ⊎ (last_number ms ≡ (local_at c i).gate.seq) → Ready i next (made c i taken ∷ ms)
  unfolding made report_of swap_of
  ready h =
      ⊎_elim (λ (e : is_idle next.control.place ≡ true). Ready.idle e)
      (λ (e : is_idle next.control.place ≡ false).
      Ready.going (cond_false (is_idle next.control.place) _ _ e) landed (sym (numbered h)))
      (true_or_false (is_idle next.control.place))

  -- its helping, and what is due there
  due : HelpOf c.variable_count (texts_of c) (local_at c i) (help_in ms) (due_in ms) →
      FromH21ToP19 (made c i taken).report.label → Comes (due_in ms) (made c i taken).report.label (made c i taken).report.cell
  unfolding made report_of
  due q = was_due c i Z lt (help_in ms) (due_in ms) place wish q

  helping : HelpOf c.variable_count (texts_of c) (local_at c i) (help_in ms) (due_in ms) →
      HelpOf c.variable_count (texts_of c) next (help_in (made c i taken ∷ ms)) (due_in (made c i taken ∷ ms))
  unfolding made report_of swap_of help_in due_in
  helping q =
      subst
      (λ (l : Local). HelpOf c.variable_count (texts_of c) l (help_after_lem c i Z lt place wish (help_in ms) l.gate.seq)
      (due_after_lem c i Z lt place wish (help_in ms) (due_in ms) l.gate.seq))
      (sym next_is) (stays_due c i Z lt (help_in ms) (due_in ms) place wish busy room q)

  wish_stays : next.exit ≡ wish
  wish_stays = ap (λ (l : Local). l.exit) next_is ∙ left_exit c i Z lt (access_of place wish)

first_label : {p : Label} (exit : Bool) → p ≡ P1 → label_of p exit ≡ Label.P1
first_label exit e = ap (λ (p : Label). label_of p exit) e

-- the path with it
module _ (c : Card) (i : ℕ) (Z : Sizes c) (lt : i < 8) (busy : is_idle (local_at c i).control.place ≡ false)
    (known : Returning (local_at c i).control.place (local_at c i).announcement.flag)
    (room : Roomy c.variable_count (texts_of c) (local_at c i).control.place (local_at c i)) where
  follows_on :
      {ms : List Made} (taken : Bool) → taken ≡ (local_at c i).exit → HelpOf c.variable_count (texts_of c) (local_at c i) (help_in ms) (due_in ms) →
      Follows i ms → Ready i (local_at c i) ms → Follows i (made c i taken ∷ ms) × Ready i (local_at (advance c i) i) (made c i taken ∷ ms)
  unfolding made report_of
  follows_on {ms} taken w q F (Ready.idle e) = absurd (true_false _ e busy)
  follows_on {ms} taken w q F (Ready.called e) = (
    record {
      path = Path.first (first_label (local_at c i).exit e);
      whole = whole c i Z lt busy known room taken [];
      numbers = (numbered c i Z lt busy known room taken [] (inl e), tt);
      helping = (due c i Z lt busy known room taken [] q, tt);
    },
    ready c i Z lt busy known room taken [] (inl e),
  )
  follows_on {ms} taken w q F (Ready.going {m} r o n) = (
    record {
      path = Path.next r
          (subst (λ (b : Bool). Leads i m b (label_of (local_at c i).control.place (local_at c i).exit)) (sym w)
          (toward i _ _ _ _ (local_at c i).announcement (local_at c i).control.place busy o (local_at c i).exit))
          F.path;
      whole = whole c i Z lt busy known room taken ms;
      numbers = (numbered c i Z lt busy known room taken ms (inr n), F.numbers);
      helping = (due c i Z lt busy known room taken ms q, F.helping);
    },
    ready c i Z lt busy known room taken ms (inr n),
  )

  stands_on :
      i < c.process_count → (n : Noticed) → Stands (contents_of c) (texts_of c) i (local_at c i) n →
      Stands (contents_of c) (texts_of c) i (local_at (advance c i) i) (record { wish = n.wish; accesses = made c i n.wish ∷ n.accesses })
  stands_on p n S =
      let x = follows_on n.wish S.wished (S.helps p) S.follows S.ready in
      record {
        follows = x.0;
        ready = x.1;
        helps = λ _. helping c i Z lt busy known room n.wish n.accesses (S.helps p);
        wished = S.wished ∙ sym (wish_stays c i Z lt busy known room n.wish n.accesses);
      }

-- what a process knows at a place, of the announcement last read
returning : (p : Label) (F : Frame) (w : World) (i : ℕ) (l : Local) → LocAt p F w i l → Returning p l.announcement.flag
returning p F w i l q =
    ⊎_elim (λ (e : p ≡ F1). let k = at F1 e in ap (λ (a : Announcement). a.flag) (sym k.same) ∙ k.done)
    (λ (e : p ≡ F3). let k = (at F3 e).0 in ap (λ (a : Announcement). a.flag) (sym k.same) ∙ k.done)
  where
    at : (x : Label) → p ≡ x → LocAt x F w i l
    at x e = subst (λ (y : Label). LocAt y F w i l) e q

-- what a helper knows that reads one record more, ..
module _ {c : Card} {w : World} (I : CardInvariant c w) (i : ℕ) (lt : i < c.process_count) (e : (local_at c i).control.place ≡ H21) where
  reading : LocAt H21 (frame_of c w) w i (known (local_at c i))
  reading = subst (λ (x : Label). LocAt x (frame_of c w) w i (known (local_at c i))) e (I.locs i lt)

  has_read_lem : has_read (local_at c i).control.place ≡ true
  has_read_lem = ap has_read e

-- .. of its dictionary and of its program
roomy : {c : Card} {w : World} (I : CardInvariant c w) (i : ℕ) → i < c.process_count →
    Roomy c.variable_count (texts_of c) (local_at c i).control.place (local_at c i)
roomy {c} {w} I i lt e = (
  (reading I i lt e).2.spare,
  subst (Short c.variable_count) (sym (I.texts.read i lt (has_read_lem I i lt e) _ _ (omega arith))) (I.good.fits.short _ _),
)

-- an exit request leaves where an operation stands
exit_ready : (i : ℕ) (l : Local) (ms : List Made) → Ready i l ms → Ready i (exiting l) ms
exit_ready i l ms (Ready.idle e) = Ready.idle e
exit_ready i l ms (Ready.called e) = Ready.called e
exit_ready i l ms (Ready.going r o n) = Ready.going r o n

-- a test of the process and of the answer
both : {A : Type 0} (j i : ℕ) (b : Bool) (x y : A) (P : A → Type 0) → (j ≡ i → b ≡ true → P x) → ((j ≢ i) ⊎ (b ≡ false) → P y) → P (cond (eqb j i && b) x y)
both j i b x y P f g =
    on_test P (eqb j i && b)
    (λ e. let h = and_true (eqb j i) b e in f (eqb-true j i h.0) h.1)
    (λ e. ⊎_elim (λ z. g (inl (eqb-false j i z))) (λ z. g (inr z.1)) (and_false (eqb j i) b e))

-- every entry
module _ {c : Card} {w : World} (I : CardInvariant c w) (i : ℕ) (n : Noticed) (S : Stands (contents_of c) (texts_of c) i (local_at c i) n) where
  small : (j : ℕ) → j < c.process_count → j < 8
  small j p = omega (arith, I.good.fits.few)

  -- the own state of another process put back
  elsewhere : (j : ℕ) (l : Local) → j ≢ i → Stands (contents_of c) (texts_of c) i (local_at (with_local c j l) i) n
  elsewhere j l ne = subst (λ (x : Local). Stands (contents_of c) (texts_of c) i x n) (sym (local_other c j i l (λ e. ne (sym e)))) S

  -- that of process j put back, which is i
  here : (j : ℕ) (f : Local → Local) → j < c.process_count → j ≡ i → local_at (with_local c j (f (local_at c j))) i ≡ f (local_at c i)
  here j f p e =
      subst (λ (n : ℕ). local_at (with_local c j (f (local_at c j))) n ≡ f (local_at c n)) e (local_same c j _ I.sizes (small j p))

  call_stands : (j k : ℕ) (inputs : Words) → j < c.process_count →
      Stands (contents_of c) (texts_of c) i (local_at (with_local c j (invoked (local_at c j) k inputs)) i) (if_taken i j Answer.Taken unnoticed n)
  call_stands j k inputs p =
      both j i true unnoticed n (Stands (contents_of c) (texts_of c) i (local_at (with_local c j (invoked (local_at c j) k inputs)) i))
      (λ e _. subst (λ (l : Local). Stands (contents_of c) (texts_of c) i l unnoticed) (sym (here j (λ l. invoked l k inputs) p e)) anew)
      (⊎_elim (elsewhere j _) (λ e. absurd (true≢false e)))
    where
      anew : Stands (contents_of c) (texts_of c) i (invoked (local_at c i) k inputs) unnoticed
      anew = record {
        follows = record { path = Path.none; whole = tt; numbers = tt; helping = tt };
        ready = Ready.called refl;
        helps = λ _. tt;
        wished = refl;
      }

  exit_stands : (j : ℕ) → j < c.process_count →
      Stands (contents_of c) (texts_of c) i (local_at (with_local c j (exiting (local_at c j))) i)
      (if_taken i j Answer.Taken (record { wish = true; accesses = n.accesses }) n)
  exit_stands j p =
      both j i true _ n (Stands (contents_of c) (texts_of c) i (local_at (with_local c j (exiting (local_at c j))) i))
      (λ e _. subst (λ (l : Local). Stands (contents_of c) (texts_of c) i l (record { wish = true; accesses = n.accesses })) (sym (here j exiting p e)) asked)
      (⊎_elim (elsewhere j _) (λ e. absurd (true≢false e)))
    where
      asked : Stands (contents_of c) (texts_of c) i (exiting (local_at c i)) (record { wish = true; accesses = n.accesses })
      asked = record { follows = S.follows; ready = exit_ready i (local_at c i) n.accesses S.ready; helps = S.helps; wished = refl }

  abbrev more : Noticed
  more = record { wish = n.wish; accesses = made c i n.wish ∷ n.accesses }

  step_stands : (j : ℕ) → j < c.process_count → is_busy c j ≡ true → c.steps < c.limit →
      Stands (contents_of (advance c j)) (texts_of (advance c j)) i (local_at (advance c j) i) (if_taken i j (answer_of (local_at (advance c j) j)) more n)
  step_stands j p b l =
      carry (one_access c j).text
      (both j i _ more n (Stands (contents_of c) (texts_of c) i (local_at (advance c j) i))
      (λ e _. subst (λ (k : ℕ). Stands (contents_of c) (texts_of c) i (local_at (advance c k) i) more) (sym e) (mine e))
      (λ h. ⊎_elim other (λ z. absurd (true_false _ (ap not (answers (local_at (advance c j) j))) z)) h))
    where
      carry :
          SameText c (advance c j) → {l : Local} {x : Noticed} → Stands (contents_of c) (texts_of c) i l x →
          Stands (contents_of (advance c j)) (texts_of (advance c j)) i l x
      carry T {l} {x} q =
          subst (λ (t : Texts). Stands (contents_of (advance c j)) t i l x) T.1 (subst (λ (t : Contents). Stands t (texts_of c) i l x) T.0 q)

      mine : j ≡ i → Stands (contents_of c) (texts_of c) i (local_at (advance c i) i) more
      mine e =
          let q : i < c.process_count = subst (λ (n : ℕ). n < c.process_count) e p in
          let d : is_busy c i ≡ true = subst (λ (n : ℕ). is_busy c n ≡ true) e b in
          stands_on c i I.sizes (small i q) (not-true _ d)
          (returning (local_at c i).control.place (frame_of c w) w i (known (local_at c i)) (I.locs i q)) (roomy I i q) q n S

      other : j ≢ i → Stands (contents_of c) (texts_of c) i (local_at (advance c j) i) n
      other ne = subst (λ (x : Local). Stands (contents_of c) (texts_of c) i x n) (sym ((inv_step c w j I p b l).elsewhere i (λ e. ne (sym e)))) S

  -- a refused entry is not noticed
  unheard : (j : ℕ) (x : Noticed) → Stands (contents_of c) (texts_of c) i (local_at c i) (cond (eqb j i && false) x n)
  unheard j x = both j i false x n (Stands (contents_of c) (texts_of c) i (local_at c i)) (λ _ z. absurd (true≢false (sym z))) (λ _. S)

  refused_kept : (e : Entry) (why : Refusal) → Stands (contents_of c) (texts_of c) i (local_at c i) (noticed c i n e (Answer.Refused why))
  unfolding noticed
  refused_kept (Entry.Call j k inputs) why = unheard j unnoticed
  refused_kept (Entry.Exit j) why = unheard j _
  refused_kept (Entry.Step j) why = unheard j _
  refused_kept (Entry.Trace j) why = unheard j _
  refused_kept (Entry.Read v) why = S
  refused_kept (Entry.Change k from t) why = S

  -- a change that is taken leaves a helper its program
  change_stands :
      (k from : ℕ) (y : Program) → is_program c k ≡ true → c.gate.seq < from → is_unsettled c k ≡ false →
      Stands (contents_of c) (texts_of (with_revision c k from y)) i (local_at c i) n
  change_stands k from y p l u = record {
    follows = S.follows;
    ready = S.ready;
    helps = λ lt. help_same c.variable_count _ _ _ _ _ _ _ (local_at c i).control.place
        (λ e. sym (chosen_kept c w k from y I (ltb-true k 8 (and_true (ltb k c.program_count) _ p).1) l u i lt (has_read_lem I i lt e)
        (omega (arith, (reading I i lt e).1.below, ap (λ (g : Gate). g.seq) (gate_is I))) _))
        (S.helps lt);
    wished = S.wished;
  }

  entry_stands : {e : Entry} {r : Answered} → Outcome c e r →
      Stands (contents_of r.card) (texts_of r.card) i (local_at r.card i) (noticed c i n e r.answer)
  unfolding noticed
  entry_stands (Outcome.turned_back e why) = refused_kept e why
  entry_stands (Outcome.called j k inputs p b) = call_stands j k inputs p
  entry_stands (Outcome.asked j p) = exit_stands j p
  entry_stands (Outcome.stepped j Steps.by_step p b l) = step_stands j p b l
  entry_stands (Outcome.stepped j Steps.by_trace p b l) = step_stands j p b l
  entry_stands (Outcome.shown v x) = S
  entry_stands (Outcome.unaltered k from t why line) = S
  entry_stands (Outcome.altered k from t p a l u) = change_stands k from _ p l u

all_stand :
    (o : Card) (m : Observation) (i : ℕ) (n : Noticed) (es : List Entry) → Consistent o m →
    Stands (contents_of m.card) (texts_of m.card) i (local_at m.card i) n →
    let d = (observe_all o m es).card in
    Stands (contents_of d) (texts_of d) i (local_at d i) (noticed_from m.card i n es)
unfolding noticed_from observe observe_all
all_stand o m i n [] O S = S
all_stand o m i n (e ∷ es) O S =
    all_stand o (observe o m e) i (noticed m.card i n e (act m.card e).answer) es (entry_kept o m O e)
    (entry_stands O.inv i n S (outcome-of m.card e))

-- over every text and every list of entries
opened_stands :
    (t : List ℕ) (es : List Entry) (i : ℕ) → let d = (run (opened t).card es).card in
    Stands (contents_of d) (texts_of d) i (local_at d i) (noticed_from (opened t).card i unnoticed es)
unfolding opened fresh observe_all
opened_stands t es i =
    all_stand (opened t).card (opening (opened t).card) i unnoticed es (opened_consistent t [])
    (record {
      follows = record { path = Path.none; whole = tt; numbers = tt; helping = tt };
      ready = Ready.idle (ap (λ (x : Control). is_idle x.place) (get_or_replicate_same 8 i idle_control));
      helps = λ _. nothing_due _ _ (local_at (opened t).card i) _ _ (get_or_replicate_same 8 i idle_control);
      wished = sym (get_or_replicate_same {A = Bool} 8 i false);
    })

pub follows_lines : (t : List ℕ) (es : List Entry) (i : ℕ) → Follows i (accesses (opened t).card es i)
follows_lines t es i = (opened_stands t es i).follows

-- the exit request that a process keeps is the wish taken since its latest taken call
pub wish_kept :
    (t : List ℕ) (es : List Entry) (i : ℕ) →
    (local_at (run (opened t).card es).card i).exit ≡ (noticed_from (opened t).card i unnoticed es).wish
wish_kept t es i = sym (opened_stands t es i).wished
