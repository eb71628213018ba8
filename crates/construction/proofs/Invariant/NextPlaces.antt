-- Where a step leads: the place of its process afterwards.
use Prim.Native.Nat.{ℕ, ◌<◌, suc}
use mathlib.Core.Path.{◌≡◌, refl, sym, subst}
use lib.ListN.{length, get_or, set}
use lib.Seq.{get_or-set_same}
use lib.Dec.{ltb}
use Rattle.std.specs.Prelude.{Option, None, Some}
use Rattle.construction.specs.Types.{Gate, Flag, Done, Active, Exit, Words, Yield, Announcement, Record, Program, Dictionary}
use Rattle.construction.specs.Types.{Simulation, Pause, Ended, Faulted, Lacks, Simulated, Label, Idle, P1, P3, P5, P7, C4, P13, P14, H21, H36, P19, P21}
use Rattle.std.specs.Prelude.{Option}
use Rattle.construction.specs.Types.{F3, GateAccess, AnnouncementAccess, Access, Control, Begun, Helped, Operation, Card}
use Rattle.construction.specs.Cells.{open_announcement, same_holder}
use Rattle.construction.specs.Dictionary.{noted, next_write, insert, item_of, empty}
use Rattle.construction.specs.Parts.{idle_control, announcement_at, local_at}
use Rattle.construction.specs.Machine.{by_holder, by_flag, write_from, after_pause, announced, access_of, access_gate, access_announcement, perform, advance}
use Rattle.construction.specs.Machine.{begin_help, begun_from, note, writing, helps, helped}
use Rattle.construction.proofs.Basics.{on_test}
use Rattle.construction.specs.Marks.{with_bit}
use Rattle.construction.specs.Helping.{simulate}
use Rattle.construction.specs.Instructions.{started}

-- what is so of every place that an access can lead to; no step makes the access None
module _ (Q : Label → Type 0) where
  abbrev GateLeads : GateAccess → Type 0
  GateLeads (GateAccess.Read held free) = Q held × Q free
  GateLeads GateAccess.ReadLast = Q F3 × Q Idle
  GateLeads GateAccess.Nominate = Q P14
  GateLeads (GateAccess.Release next) = Q next

  abbrev AnnouncementLeads : AnnouncementAccess → Type 0
  AnnouncementLeads AnnouncementAccess.Announce = Q P5
  AnnouncementLeads AnnouncementAccess.Withdraw = Q P7
  AnnouncementLeads (AnnouncementAccess.ReadOwn done active exit) = Q done × Q active × Q exit
  AnnouncementLeads AnnouncementAccess.ReadFirst = Q C4 × Q P13
  AnnouncementLeads (AnnouncementAccess.Finish flag next) = Q next

  abbrev pub Leads : Access → Type 0
  Leads Access.None = ⊥
  Leads (Access.Gate a) = GateLeads a
  Leads (Access.Announcement a) = AnnouncementLeads a
  Leads Access.Help = Q P21 × Q H21 × Q H36 × Q P19
  Leads Access.Note = Q P19 × Q H21 × Q H36
  Leads Access.Write = Q H36 × Q P19

  by_holder_lem : (h : Option ℕ) (held free : Label) → Q held → Q free → Q (by_holder h held free)
  by_holder_lem None held free a b = b
  by_holder_lem (Some m) held free a b = a

  by_flag_lem : (f : Flag) (done active exit : Label) → Q done → Q active → Q exit → Q (by_flag f done active exit)
  by_flag_lem Done done active exit a b c = a
  by_flag_lem Active done active exit a b c = b
  by_flag_lem Exit done active exit a b c = c

  by_write : (seq : ℕ) (d : Dictionary) (k : ℕ) → Q H36 → Q P19 → Q (write_from seq d k).place
  by_write seq d k a b =
      on_test (λ (x : Control). Q x.place) (ltb (next_write seq d k) (length (noted d))) (λ _. a) (λ _. b)

  by_pause : (seq : ℕ) (d : Dictionary) (p : Pause) → Q H21 → Q H36 → Q P19 → Q (after_pause seq d p).place
  by_pause seq d Ended a b c = by_write seq d 0 b c
  by_pause seq d Faulted a b c = c
  by_pause seq d (Lacks v) a b c = a

  gate_leads : (a : GateAccess) → GateLeads a → (i : ℕ) (cell g : Gate) (t : Control) → Q (access_gate a i cell g t).control.place
  unfolding access_gate
  gate_leads (GateAccess.Read held free) q i cell g t = by_holder_lem cell.holder held free q.0 q.1
  gate_leads GateAccess.ReadLast q i cell g t = on_test Q (same_holder cell.holder (Some i)) (λ _. q.0) (λ _. q.1)
  gate_leads GateAccess.Nominate q i cell g t = q
  gate_leads (GateAccess.Release next) q i cell g t = q

  announcement_leads :
      (a : AnnouncementAccess) → AnnouncementLeads a → (m : ℕ) (cell : Announcement) (o : Operation) (g : Gate) (r : Announcement)
      (outputs : Yield) (t : Control) → Q (access_announcement a m cell o g r outputs t).control.place
  unfolding access_announcement
  announcement_leads AnnouncementAccess.Announce q m cell o g r outputs t = q
  announcement_leads AnnouncementAccess.Withdraw q m cell o g r outputs t = q
  announcement_leads (AnnouncementAccess.ReadOwn done active exit) q m cell o g r outputs t =
      by_flag_lem cell.flag done active exit q.0 q.1 q.2
  announcement_leads AnnouncementAccess.ReadFirst q m cell o g r outputs t =
      by_flag_lem cell.flag C4 P13 C4 q.0 q.1 q.0
  announcement_leads (AnnouncementAccess.Finish flag next) q m cell o g r outputs t = q

  helped_leads : (number : ℕ) (x : Simulated) (mask : ℕ) → Q H21 → Q H36 → Q P19 → Q (helped number x mask).control.place
  helped_leads number x mask a b e = by_pause number x.dictionary x.pause a b e

  help_leads :
      Q P21 × Q H21 × Q H36 × Q P19 → (n : ℕ) (program : Program) (cell : Announcement) (number : ℕ) (t : Control) (s : Simulation) →
      Q (begun_from t s (begin_help n program cell number)).control.place
  unfolding begin_help
  help_leads q n program cell number t s =
      on_test (λ (x : Option Begun). Q (begun_from t s x).control.place) (helps cell number)
      (λ _. helped_leads number (simulate n program cell.words started empty) 0 q.1 q.2 q.3) (λ _. q.0)

  note_leads :
      Q P19 × Q H21 × Q H36 → (n : ℕ) (program : Program) (inputs : Words) (cell : Record) (number : ℕ) (t : Control) (s : Simulation)
      (d : Dictionary) (mask : ℕ) → Q (note n program inputs cell number t s d mask).control.place
  unfolding note
  note_leads q n program inputs cell number t s d mask =
      on_test (λ (x : Helped). Q x.control.place) (ltb number cell.seq) (λ _. q.0)
      (λ _. helped_leads number (simulate n program inputs s (insert d (item_of number t.target cell))) (with_bit mask t.target) q.1 q.2 q.0)

  write_leads : Q H36 × Q P19 → (number : ℕ) (t : Control) (d : Dictionary) → Q (writing number t d).control.place
  unfolding writing
  write_leads q number t d = by_write number d (suc t.target) q.0 q.1

  module _ (c : Card) (i : ℕ) (lt : i < length c.controls) where
    -- the control that was put back
    placed : (x : Control) → Q x.place → Q (get_or (set c.controls i x) i idle_control).place
    placed x q = subst (λ (y : Control). Q y.place) (sym (get_or-set_same c.controls i x idle_control lt)) q

    pub leads : (a : Access) → Leads a → Q (local_at (perform a c i).card i).control.place
    unfolding perform
    leads Access.None q = absurd q
    leads (Access.Gate a) q = placed _ (gate_leads a q _ _ _ _)
    leads (Access.Announcement a) q = placed _ (announcement_leads a q _ _ _ _ _ _ _)
    leads Access.Help q = placed _ (help_leads q _ _ _ _ (local_at c i).control (local_at c i).simulation)
    leads Access.Note q = placed _ (note_leads q _ _ _ _ _ _ _ _ _)
    leads Access.Write q = placed _ (write_leads q _ _ _)

module _ (c : Card) (i : ℕ) (lt : i < length c.controls) where
  -- P1 leads to P3
  pub P1-next : (local_at c i).control.place ≡ P1 → (local_at (advance c i) i).control.place ≡ P3
  unfolding advance access_of
  P1-next e = rw e (leads (λ l. l ≡ P3) c i lt _ (refl, refl))

  -- P3 leads to P5, with the operation announced
  pub P3-next : (local_at c i).control.place ≡ P3 → (local_at (advance c i) i).control.place ≡ P5
  unfolding advance access_of
  P3-next e = rw e (leads (λ l. l ≡ P5) c i lt _ refl)

  pub P3-active : i < length c.announcements → (local_at c i).control.place ≡ P3 →
      announcement_at (advance c i) i ≡ announced (local_at c i).operation (local_at c i).gate
  unfolding advance perform access_of access_announcement
  P3-active h e = rw e (get_or-set_same c.announcements i (announced (local_at c i).operation (local_at c i).gate) open_announcement h)
