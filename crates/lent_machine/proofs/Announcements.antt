-- The accesses of an announcement on a block are the machine's on the card that stands there, whatever stands in the block.
use Rattle.std.proofs.Common.{◌≡◌, ℕ, ◌%◌, ◌<◌, ◌≤◌, Bool, true, false, cond, ltb, List, length, sym, refl, ap, ◌∙◌, arith, ltb-true}
use Rattle.construction.specs.Cells.{FitsWords, same_announcement, swap_announcement}
use Rattle.construction.specs.Parts.{local_at, announcement_at, with_announcement, with_steps}
use Rattle.construction.specs.Machine.{first_choice, holder_of, announced, flagged, withdrawn, finished, announce, replace_announcement, read_flag, whose}
use Rattle.construction.specs.Machine.{access_announcement, perform}
use Rattle.codes.specs.Types.{Yield, Gate, Announcement, AnnouncementAccess, AccessedCell, Access, Operation, Words, Flag, Done, Active, Exit, Label}
use Rattle.codes.specs.Types.{C4, P7, P13, Card}
use Rattle.codes.proofs.Values.{FitsAnnouncement, FitsOperation}
use Rattle.block.specs.Layout.{process_count_in, announcement_in, put_announcement, control_in, operation_in, last_gate_in, last_in, put_last, simulation_in}
use Rattle.block.specs.Cards.{card_of}
use Rattle.block.proofs.Gets.{process_count_is, announcement_is, control_is, operation_is, last_gate_is, last_is, simulation_is}
use Rattle.block.proofs.Puts.{announcement_stored}
use Rattle.block.proofs.Fitting.{process_count_fits, announcement_fits, control_fits, operation_fits, last_fits, simulation_fits}
use Rattle.machine.proofs.Laws.{choice_small}
use Rattle.lent_machine.specs.Accesses.{whose_in, announcement_accessed, if_won, announcement_read, announcement_swapped, announce_step, announcement_step, next}
use Rattle.lent_machine.specs.Accesses.{counted}
use Rattle.lent_machine.proofs.Own.{control_placed, copy_placed, accepted, control_put, copy_put, announcement_same, swap_stored}
use Rattle.lent_machine.proofs.Keeping.{Kept, kept_twice, kept_if, announcement_kept, last_kept, control_kept}

-- the card after an access of the announcement of process m by process i, but for the counts
abbrev announcement_card : Card → ℕ → ℕ → AccessedCell Announcement → Card
announcement_card c i m x = copy_placed (with_announcement c m x.cell) i x.read x.control

-- what an access writes fits
words_fit : (program : ℕ) (flag : Flag) (seq number : ℕ) (words : Words) (fault : Bool) → program < 256 → FitsWords words →
    FitsAnnouncement (record { program = program; flag = flag; seq = seq; number = number; words = words; fault = fault })
words_fit program flag seq number words fault p f = record { program = p; w0 = f.w0; w1 = f.w1; w2 = f.w2; w3 = f.w3 }

pub announced_fits : (o : Operation) (g : Gate) → FitsOperation o → FitsAnnouncement (announced o g)
announced_fits o g f = words_fit o.program Active g.seq 0 o.inputs false f.program f.inputs

pub withdrawn_fits : (a : Announcement) (o : Operation) → FitsAnnouncement a → FitsOperation o → FitsAnnouncement (withdrawn a o)
withdrawn_fits a o e f = words_fit a.program Exit a.seq 0 o.inputs false e.program f.inputs

pub finished_fits : (a : Announcement) (g : Gate) (y : Yield) → FitsAnnouncement a → FitsWords y.outputs → FitsAnnouncement (finished a g y)
finished_fits a g y e f = words_fit a.program Done a.seq g.seq y.outputs y.fault e.program f

pub choice_fits : (seq p : ℕ) → p < 256 → first_choice seq p < 256
unfolding first_choice
choice_fits seq p h = go (ltb 0 p) refl
  where
    go : (t : Bool) → ltb 0 p ≡ t → cond t (seq % p) 0 < 256
    go true e = choice_small seq p (ltb-true 0 p e) h
    go false e = omega arith

-- the block after an access keeps its length and its text
module _ (b : List ℕ) (i : ℕ) (x : AccessedCell Announcement) where
  read_kept : Kept b (announcement_read b i x)
  read_kept = kept_twice (last_kept b i x.read) (control_kept (put_last b i x.read) i x.control)

  swapped_kept : (m : ℕ) → Kept b (announcement_swapped b i m x)
  swapped_kept m =
      kept_twice (kept_if x.swap (announcement_kept b m x.cell)) (control_kept (if_won x.swap (put_announcement b m x.cell) b) i x.control)

pub announcement_step_kept : (a : AnnouncementAccess) (b : List ℕ) (i : ℕ) → Kept b (announcement_step a b i)
unfolding announcement_step access_announcement
announcement_step_kept AnnouncementAccess.Announce b i =
    let x = announcement_accessed AnnouncementAccess.Announce b i in
    kept_twice (announcement_kept b i x.cell) (read_kept (put_announcement b i x.cell) i x)
announcement_step_kept AnnouncementAccess.Withdraw b i = swapped_kept b i (announcement_accessed AnnouncementAccess.Withdraw b i) i
announcement_step_kept (AnnouncementAccess.ReadOwn done active exit) b i =
    read_kept b i (announcement_accessed (AnnouncementAccess.ReadOwn done active exit) b i)
announcement_step_kept AnnouncementAccess.ReadFirst b i = read_kept b i (announcement_accessed AnnouncementAccess.ReadFirst b i)
announcement_step_kept (AnnouncementAccess.Finish flag place) b i =
    swapped_kept b i (announcement_accessed (AnnouncementAccess.Finish flag place) b i) (whose_in (AnnouncementAccess.Finish flag place) b i)

module _ (b l : List ℕ) (i : ℕ) where
  abbrev on_card : AnnouncementAccess → ℕ → AccessedCell Announcement
  on_card a m =
      let o = local_at (card_of b l) i in
      access_announcement a m (announcement_at (card_of b l) m) o.operation o.gate o.announcement o.simulation.yields o.control

  -- what is taken out is what the machine's access has
  whose_named : (a : AnnouncementAccess) → whose_in a b i ≡ whose a (card_of b l).process_count i (local_at (card_of b l) i).gate
  whose_named a =
      let count = process_count_is b l in
      let last = last_gate_is b l i in
      λ j. whose a (count j) i (last j)

  announcement_named : (a : AnnouncementAccess) → announcement_accessed a b i ≡ on_card a (whose a (card_of b l).process_count i (local_at (card_of b l) i).gate)
  announcement_named a =
      let m = whose_named a in
      let cell = announcement_is b l (whose_in a b i) ∙ ap (announcement_at (card_of b l)) m in
      let operation = operation_is b l i in
      let gate = last_gate_is b l i in
      let last = last_is b l i in
      let s = simulation_is b l i in
      let control = control_is b l i in
      λ j. access_announcement a (m j) (cell j) (operation j) (gate j) (last j) (s j).yields (control j)

  -- the machine's swap
  pub announcement_swap_is : (a : AnnouncementAccess) → (perform (Access.Announcement a) (card_of b l) i).swap ≡ (announcement_accessed a b i).swap
  unfolding perform
  announcement_swap_is a = ap (λ (x : AccessedCell Announcement). x.swap) (sym (announcement_named a))

  module _ (long : 1456 ≤ length b) where
    -- the announcement of process m is read: it stays as it was
    read_is :
        (m : ℕ) (done active exit : Label) → m < 256 →
        let x = read_flag (announcement_in b m) m done active exit in card_of (announcement_read b i x) l ≡ announcement_card (card_of b l) i m x
    read_is m done active exit h =
        let x = read_flag (announcement_in b m) m done active exit in
        copy_put b l long i x.read x.control (announcement_fits b m) h ∙ ap (λ (k : Card). copy_placed k i x.read x.control)
        (announcement_same b l m)

    -- it is swapped; what the process last read stays as it was
    swapped_is :
        (m : ℕ) (expected new : Announcement) (place : Label) → FitsAnnouncement new →
        let x = replace_announcement (announcement_in b m) (last_in b i) (control_in b i) expected new place in
        card_of (announcement_swapped b i m x) l ≡ announcement_card (card_of b l) i m x
    unfolding swap_announcement
    swapped_is m expected new place f =
        let cell = announcement_in b m in
        let x = replace_announcement cell (last_in b i) (control_in b i) expected new place in
        let c = card_of b l in
        let stored : card_of (if_won x.swap (put_announcement b m x.cell) b) l ≡ with_announcement c m x.cell =
        swap_stored b l (put_announcement b m) (with_announcement c m) new cell (same_announcement cell expected) (announcement_stored b l long m new f)
        (announcement_same b l m) in
        let size = (kept_if x.swap (announcement_kept b m x.cell)).size in
        let last = last_is b l i in
        control_put (if_won x.swap (put_announcement b m x.cell) b) l (omega arith) i x.control (control_fits b i)
        ∙ ap (λ (k : Card). control_placed k i x.control) stored
        ∙ λ j. copy_placed (with_announcement c m x.cell) i (sym last j) x.control

    announce_is : card_of (announce_step b i) l ≡ announcement_card (card_of b l) i i (announce (operation_in b i) (last_gate_in b i) (control_in b i))
    announce_is =
        let x = announce (operation_in b i) (last_gate_in b i) (control_in b i) in
        let fits = announced_fits (operation_in b i) (last_gate_in b i) (operation_fits b i) in
        let size = (announcement_kept b i x.cell).size in
        copy_put (put_announcement b i x.cell) l (omega arith) i x.read x.control fits (control_fits b i)
        ∙ ap (λ (k : Card). copy_placed k i x.read x.control) (announcement_stored b l long i x.cell fits)

    module _ (h : i < 256) where
      announcement_placed : (a : AnnouncementAccess) → card_of (announcement_step a b i) l ≡ announcement_card (card_of b l) i (whose_in a b i)
          (announcement_accessed a b i)
      unfolding announcement_step access_announcement
      announcement_placed AnnouncementAccess.Announce = announce_is
      announcement_placed AnnouncementAccess.Withdraw =
          swapped_is i (last_in b i) (withdrawn (last_in b i) (operation_in b i)) P7
          (withdrawn_fits (last_in b i) (operation_in b i) (last_fits b i) (operation_fits b i))
      announcement_placed (AnnouncementAccess.ReadOwn done active exit) = read_is i done active exit h
      announcement_placed AnnouncementAccess.ReadFirst =
          read_is (whose_in AnnouncementAccess.ReadFirst b i) C4 P13 C4 (choice_fits (last_gate_in b i).seq (process_count_in b) (process_count_fits b))
      announcement_placed (AnnouncementAccess.Finish flag place) =
          swapped_is (holder_of (last_gate_in b i).holder) (flagged (last_in b i) flag) (finished (last_in b i) (last_gate_in b i) (simulation_in b i).yields) place
          (finished_fits (last_in b i) (last_gate_in b i) (simulation_in b i).yields (last_fits b i) (simulation_fits b i).outputs)

      -- AN ACCEPTED STEP AT AN ANNOUNCEMENT (lines P3, P6, P7, C2, C4, P19, P20, P22): the block after it holds what `advance` makes of the card that it held
      pub announcement_step_is :
          (a : AnnouncementAccess) →
          card_of (counted (announcement_step a b i) i) l ≡ with_steps (perform (Access.Announcement a) (card_of b l) i).card (next (card_of b l).steps)
      unfolding perform
      announcement_step_is a =
          let c = card_of b l in
          let o = local_at c i in
          let m = whose a c.process_count i o.gate in
          let x = on_card a m in
          let size = (announcement_step_kept a b i).size in
          let whom = whose_named a in
          let named = announcement_named a in
          accepted (announcement_step a b i) l (omega arith) i (with_announcement c m x.cell) x.control o.gate x.read o.simulation o.dictionary
          o.mask
          (announcement_placed a ∙ λ j. announcement_card c i (whom j) (named j))
