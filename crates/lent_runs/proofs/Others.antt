-- A step leaves how many items the other processes have noted, for every block and every loan; and a full dictionary stays full.
use Prim.Native.Nat.{ℕ, ◌+◌, ◌*◌, ◌<◌, ◌≤◌, min}
use mathlib.Core.Path.{◌≡◌, refl, sym, ◌∙◌, subst}
use mathlib.Core.Logic.{◌≢◌, ◌⊎◌, inl, inr, ⊎_elim}
use mathlib.Core.Bool.{Bool, true, false, cond, ◌&&◌}
use mathlib.Core.List.{List}
use native.Mathlib.Omega.{arith}
use lib.Dec.{ltb}
use lib.ListN.{length}
use lib.Seq.{get_or-set_other}
use borrow.Author.Tests.{le-ltb}
use Rattle.construction.specs.declared.accesses.Swap.{Swap}
use Rattle.construction.specs.Answers.{is_refused}
use Rattle.construction.specs.Marks.{with_bit}
use Rattle.construction.specs.Machine.{access_of, go_to, holder_of, first_choice, helps, after_pause, outcome, read_holder, read_last, nominate, release, announce}
use Rattle.construction.specs.Machine.{withdraw, read_flag, finish}
use Rattle.codes.specs.Types.{Gate, Item, Access, GateAccess, AccessedCell, AnnouncementAccess, Control, Announcement, Simulation, C4, H21, P13}
use Rattle.codes.specs.Types.{P19, P21}
use Rattle.codes.specs.Parts.{word_at}
use Rattle.codes.specs.Codes.{byte, gate_words, control_words, announcement_words, record_words, simulation_words}
use Rattle.block.specs.Layout.{is_room, put_row, put_number, process_count_in, steps_in, room_in, gate_in, put_gate, announcement_in, put_announcement, control_in}
use Rattle.block.specs.Layout.{put_control, operation_in, count_in, put_steps, last_gate_in, put_last_gate, last_in, put_last, simulation_in, put_simulation, noted_in}
use Rattle.block.specs.Layout.{put_noted, mask_in, put_mask}
use Rattle.lent_machine.proofs.Keeping.{kept_room, mask_kept, only_row, only_number}
use Rattle.lent_machine.specs.Accesses.{if_won, next, gate_read, gate_swapped, gate_step, announcement_read, announcement_swapped, announcement_step, counted}
use Rattle.loan.specs.Loans.{has_items, is_inserted, insert_block, insert_loan}
use Rattle.loan.specs.Simulated.{begun_in, simulated_in}
use Rattle.lent_helping.specs.Helps.{number_in, helped_in, help_step, lacked_in, lacked_item, put_marked, gone_on, noted_block, note_block, writing_in, written_in}
use Rattle.lent_helping.specs.Helps.{record_swapped, write_step}
use Rattle.lent_helping.specs.Steps.{access_block}
use Rattle.lent_steps.specs.Steps.{step_verdict, access_at, step_block}
use Rattle.lent_steps.proofs.Keeping.{step_block_kept}
use Rattle.lent_runs.proofs.Requested.{same_number}

-- the lengths of the other dictionaries
pub record Others (i : ℕ) (b c : List ℕ) : Type 0 where
  pub at : (j : ℕ) → j < 8 → j ≢ i → word_at c (576 + j) ≡ word_at b (576 + j)

others_self : (i : ℕ) (b : List ℕ) → Others i b b
others_self i b = record { at = λ j p q. refl }

others_twice : {i : ℕ} {b c d : List ℕ} → Others i b c → Others i c d → Others i b d
others_twice x y = record { at = λ j p q. y.at j p q ∙ x.at j p q }

others_either : {i : ℕ} {b c d : List ℕ} (t : Bool) → Others i b c → Others i b d → Others i b (cond t c d)
others_either true x y = x
others_either false x y = y

others_if : {i : ℕ} {b c : List ℕ} (s : Swap) → Others i b c → Others i b (if_won s c b)
others_if {i} {b} Swap.None x = others_self i b
others_if {i} {b} Swap.Lost x = others_self i b
others_if Swap.Won x = x

module _ (i : ℕ) (b : List ℕ) where
  -- parts before and behind the lengths
  others_row : (base n k : ℕ) (words : List ℕ) → base + length words * n ≤ 576 → Others i b (put_row b base (length words) n k words)
  others_row base n k words to =
      let only = only_row b base 576 base n k (omega arith) words to in record { at = λ j p q. only.at (576 + j) (inr (omega arith)) }

  others_number : (base n k x : ℕ) → (base + n ≤ 576) ⊎ (584 ≤ base) → Others i b (put_number b base n k x)
  others_number base n k x h =
      let only = only_number b base (base + n) base n k (omega arith) x (omega arith) in
      record { at = λ j p q. only.at (576 + j) (⊎_elim (λ (z : base + n ≤ 576). inr (omega arith)) (λ (z : 584 ≤ base). inl (omega arith)) h) }

  -- the length of its own
  others_noted : (n : ℕ) → Others i b (put_noted b i n)
  unfolding put_number
  others_noted n = others_either (is_room b i 8) (record { at = λ j p q. get_or-set_other b (576 + i) (576 + j) n 0 (λ e. q (omega arith)) }) (others_self i b)

  others_control : (k : ℕ) (t : Control) → Others i b (put_control b k t)
  others_control k t = others_row 336 8 k (control_words t) (omega arith)

  others_last : (a : Announcement) → Others i b (put_last b i a)
  others_last a = others_row 424 8 i (announcement_words a) (omega arith)

  others_simulation : (k : ℕ) (s : Simulation) → Others i b (put_simulation b k s)
  others_simulation k s = others_row 496 8 k (simulation_words s) (omega arith)

  others_announcement : (m : ℕ) (a : Announcement) → Others i b (put_announcement b m a)
  others_announcement m a = others_row 8 8 m (announcement_words a) (omega arith)

  others_mask : (k x : ℕ) → Others i b (put_mask b k x)
  others_mask k x = others_number 584 8 k x (inr (omega arith))

module _ (i : ℕ) (b : List ℕ) where
  gate_read_lem : (x : AccessedCell Gate) → Others i b (gate_read b i x)
  gate_read_lem x = others_twice (others_row i b 408 8 i (gate_words x.read) (omega arith)) (others_control i (put_last_gate b i x.read) i x.control)

  gate_swapped_lem : (x : AccessedCell Gate) → Others i b (gate_swapped b i x)
  gate_swapped_lem x =
      others_twice (others_if x.swap (others_row i b 5 1 0 (gate_words x.cell) (omega arith)))
      (others_control i (if_won x.swap (put_gate b x.cell) b) i x.control)

  announcement_read_lem : (x : AccessedCell Announcement) → Others i b (announcement_read b i x)
  announcement_read_lem x = others_twice (others_last i b x.read) (others_control i (put_last b i x.read) i x.control)

  announcement_swapped_lem : (m : ℕ) (x : AccessedCell Announcement) → Others i b (announcement_swapped b i m x)
  announcement_swapped_lem m x =
      others_twice (others_if x.swap (others_announcement i b m x.cell))
      (others_control i (if_won x.swap (put_announcement b m x.cell) b) i x.control)

gate_others : (a : GateAccess) (b : List ℕ) (i : ℕ) → Others i b (gate_step a b i)
unfolding gate_step
gate_others (GateAccess.Read held free) b i = gate_read_lem i b (read_holder (gate_in b) (control_in b i) held free)
gate_others GateAccess.ReadLast b i = gate_read_lem i b (read_last (gate_in b) (control_in b i) i)
gate_others GateAccess.Nominate b i = gate_swapped_lem i b (nominate (gate_in b) (last_gate_in b i) (control_in b i))
gate_others (GateAccess.Release place) b i = gate_swapped_lem i b (release (gate_in b) (last_gate_in b i) (control_in b i) place)

announcement_others : (a : AnnouncementAccess) (b : List ℕ) (i : ℕ) → Others i b (announcement_step a b i)
unfolding announcement_step
announcement_others AnnouncementAccess.Announce b i =
    let x = announce (operation_in b i) (last_gate_in b i) (control_in b i) in
    others_twice (others_announcement i b i x.cell) (announcement_read_lem i (put_announcement b i x.cell) x)
announcement_others AnnouncementAccess.Withdraw b i =
    announcement_swapped_lem i b i (withdraw (announcement_in b i) (operation_in b i) (last_in b i) (control_in b i))
announcement_others (AnnouncementAccess.ReadOwn done active exit) b i = announcement_read_lem i b (read_flag (announcement_in b i) i done active exit)
announcement_others AnnouncementAccess.ReadFirst b i =
    let m = first_choice (last_gate_in b i).seq (process_count_in b) in
    announcement_read_lem i b (read_flag (announcement_in b m) m C4 P13 C4)
announcement_others (AnnouncementAccess.Finish flag place) b i =
    let m = holder_of (last_gate_in b i).holder in
    announcement_swapped_lem i b m (finish flag place (announcement_in b m) (last_gate_in b i) (last_in b i) (simulation_in b i).yields (control_in b i))

help_others : (b : List ℕ) (i : ℕ) → Others i b (help_step b i)
unfolding help_step
help_others b i =
    let number = number_in b i in
    let cell = helped_in b i in
    let x = begun_in b number cell in
    let c = put_simulation b i x.simulation in
    let d = put_noted c i 0 in
    let e = put_mask d i 0 in
    others_either (helps cell number)
    (others_twice (others_simulation i b i x.simulation) (others_twice (others_noted i c 0) (others_twice (others_mask i d i 0)
    (others_twice (others_last i e cell) (others_control i (put_last e i cell) i (after_pause number x.dictionary x.pause))))))
    (others_twice (others_last i b cell) (others_control i (put_last b i cell) i (go_to (control_in b i) P21)))

gone_on_others : (n : ℕ) (b l : List ℕ) (i number : ℕ) → Others n b (gone_on b l i number)
gone_on_others n b l i number =
    let x = simulated_in b l i number in
    others_twice (others_simulation n b i x.simulation)
    (others_control n (put_simulation b i x.simulation) i (after_pause number x.dictionary x.pause))

insert_others : (b l : List ℕ) (i : ℕ) → Others i b (insert_block b l i)
unfolding insert_block
insert_others b l i = others_either (is_inserted b l i) (others_noted i b (noted_in b i + 1)) (others_self i b)

noted_others : (b l : List ℕ) (i number : ℕ) (e : Item) → Others i b (noted_block b l i number e)
noted_others b l i number e =
    let c = put_marked b i e.variable in
    others_twice (others_mask i b i (with_bit (mask_in b i) e.variable))
    (others_twice (insert_others c l i) (gone_on_others i (insert_block c l i) (insert_loan c l i e) i number))

note_others : (b l : List ℕ) (i : ℕ) → Others i b (note_block b l i)
unfolding note_block
note_others b l i =
    others_either (ltb (number_in b i) (lacked_in b i).seq) (others_control i b i (go_to (control_in b i) P19))
    (noted_others b l i (number_in b i) (lacked_item b i))

write_others : (b l : List ℕ) (i : ℕ) → Others i b (write_step b l i)
unfolding write_step
write_others b l i =
    let v = (writing_in b l i).item.variable in
    let x = written_in b l i in
    others_twice (others_if (outcome x.won) (others_row i b 80 64 v (record_words x.cell) (omega arith)))
    (others_control i (record_swapped b v x) i (writing_in b l i).control)

access_others : (a : Access) (b l : List ℕ) (i : ℕ) → Others i b (access_block a b l i)
unfolding access_block
access_others Access.None b l i = others_self i b
access_others (Access.Gate a) b l i = gate_others a b i
access_others (Access.Announcement a) b l i = announcement_others a b i
access_others Access.Help b l i = help_others b i
access_others Access.Note b l i = note_others b l i
access_others Access.Write b l i = write_others b l i

counted_others : (n : ℕ) (b : List ℕ) (i : ℕ) → Others n b (counted b i)
counted_others n b i =
    others_twice (others_number n b 4 1 0 (next (steps_in b)) (inl (omega arith)))
    (others_number n (put_steps b (next (steps_in b))) 400 8 i (next (count_in b i)) (inl (omega arith)))

-- A STEP
module _ (b l : List ℕ) (i : ℕ) where
  block_others : Others i b (step_block b l i)
  unfolding step_block
  block_others =
      others_either (is_refused (step_verdict b l i)) (others_self i b)
      (others_twice (access_others (access_at b i) b l i) (counted_others i (access_block (access_at b i) b l i) i))

  pub step_others : (j : ℕ) → j ≢ i → noted_in (step_block b l i) j ≡ noted_in b j
  step_others j ne =
      let kept = step_block_kept b l i in
      let count = same_number b (step_block b l i) 576 8 j kept.size (λ p. block_others.at j p ne) in
      let room = kept_room kept in
      λ z. min (byte (count z)) (room z)

-- A FULL DICTIONARY STAYS FULL: line H21 of a process with w items notes none, and takes none away
module _ (b l : List ℕ) (i : ℕ) (full : noted_in b i ≡ room_in b) where
  none_inserted : (v : ℕ) → insert_block (put_marked b i v) l i ≡ put_marked b i v
  unfolding insert_block is_inserted
  none_inserted v =
      let c = put_marked b i v in
      let kept = mask_kept b i (with_bit (mask_in b i) v) in
      let room = kept_room kept in
      let count = same_number b c 576 8 i kept.size (λ p. (others_mask 8 b i (with_bit (mask_in b i) v)).at i p (λ e. omega arith)) in
      let still : noted_in c i ≡ noted_in b i = λ z. min (byte (count z)) (room z) in
      rw (le-ltb (noted_in c i) (room_in c) (omega arith)) (none (has_items c l i) _ c)
    where
      none : (t : Bool) (x y : List ℕ) → cond (t && false) x y ≡ y
      none true x y = refl
      none false x y = refl

  full_noted : Others 8 b (note_block b l i)
  unfolding note_block
  full_noted =
      let e = lacked_item b i in
      let c = put_marked b i e.variable in
      let d = insert_block c l i in
      others_either (ltb (number_in b i) (lacked_in b i).seq) (others_control 8 b i (go_to (control_in b i) P19))
      (others_twice (subst (Others 8 b) (sym (none_inserted e.variable)) (others_mask 8 b i (with_bit (mask_in b i) e.variable)))
      (gone_on_others 8 d (insert_loan c l i e) i (number_in b i)))

  pub full_stays : (control_in b i).place ≡ H21 → noted_in (step_block b l i) i ≡ room_in b
  unfolding step_block access_block access_of
  full_stays at =
      let kept = step_block_kept b l i in
      let room = kept_room kept in
      let same : Others 8 b (step_block b l i) =
      others_either (is_refused (step_verdict b l i)) (others_self 8 b) (rw at (others_twice full_noted (counted_others 8 (note_block b l i) i))) in
      let count = same_number b (step_block b l i) 576 8 i kept.size (λ p. same.at i p (λ e. omega arith)) in
      (λ z. min (byte (count z)) (room z)) ∙ full
