-- What a process keeps after an access on a block: what the access leaves is put back as it was, the step is counted last, and a swap that lost stores
-- nothing, where the machine stores the cell that it found. One law each, for every kind of access.
use Rattle.std.proofs.Common.{◌≡◌, ℕ, ◌<◌, ◌≤◌, Bool, true, false, cond, List, length, set, sym, ap, ◌∙◌, arith}
use lib.Seq.{set-get_or}
use Rattle.construction.specs.Cells.{open_announcement, open_record}
use Rattle.construction.specs.Instructions.{started}
use Rattle.construction.specs.Dictionary.{empty}
use Rattle.construction.specs.Parts.{local_at, no_operation, no_gate, with_cells, with_gate, with_announcement, with_record, with_own, with_local, with_steps}
use Rattle.construction.specs.Machine.{after, outcome}
use Rattle.codes.specs.Types.{Gate, Announcement, Control, Simulation, Dictionary, Card}
use Rattle.codes.specs.Codes.{gate_words, announcement_words}
use Rattle.codes.proofs.Values.{Fits, FitsAnnouncement}
use Rattle.block.specs.Layout.{steps_in, gate_in, announcement_in, record_in, count_in, put_steps, put_control, put_last_gate, put_last}
use Rattle.block.specs.Cards.{card_of, with_control, with_count, with_gate_read, with_copy}
use Rattle.block.proofs.Gets.{steps_is, gate_is, announcement_is, record_is, count_is}
use Rattle.block.proofs.Puts.{steps_stored, count_stored, control_stored, last_gate_stored, last_stored, put_row_length, put_number_length}
use Rattle.lent_machine.specs.Accesses.{if_won, next, counted}

-- what process i keeps, but for its operation, its exit request and its own steps
abbrev pub placed : Card → ℕ → Control → Gate → Announcement → Simulation → Dictionary → ℕ → Card
placed c i control gate a s d mask =
    with_own c (set c.controls i control) c.operations c.exits c.counts (set c.gates_read i gate) (set c.announcements_read i a)
    (set c.simulations i s) (set c.dictionaries i d) (set c.masks i mask)

-- .. after an access that alters its control, and the gate last read, and the announcement last read
abbrev pub control_placed : Card → ℕ → Control → Card
control_placed c i t = let o = local_at c i in placed c i t o.gate o.announcement o.simulation o.dictionary o.mask

abbrev pub gate_placed : Card → ℕ → Gate → Control → Card
gate_placed c i g t = let o = local_at c i in placed c i t g o.announcement o.simulation o.dictionary o.mask

abbrev pub copy_placed : Card → ℕ → Announcement → Control → Card
copy_placed c i a t = let o = local_at c i in placed c i t o.gate a o.simulation o.dictionary o.mask

-- what is put back as it was
module _ (c : Card) (i : ℕ) where
  pub gates_read-kept : set c.gates_read i (local_at c i).gate ≡ c.gates_read
  gates_read-kept = set-get_or c.gates_read i no_gate

  pub announcements_read-kept : set c.announcements_read i (local_at c i).announcement ≡ c.announcements_read
  announcements_read-kept = set-get_or c.announcements_read i open_announcement

  pub simulations_kept : set c.simulations i (local_at c i).simulation ≡ c.simulations
  simulations_kept = set-get_or c.simulations i started

  pub dictionaries_kept : set c.dictionaries i (local_at c i).dictionary ≡ c.dictionaries
  dictionaries_kept = set-get_or c.dictionaries i empty

  pub masks_kept : set c.masks i (local_at c i).mask ≡ c.masks
  masks_kept = set-get_or c.masks i 0

  pub control_placed_lem : (t : Control) → with_control c i t ≡ control_placed c i t
  control_placed_lem t =
      λ j. with_own c (set c.controls i t) c.operations c.exits c.counts (sym gates_read-kept j) (sym announcements_read-kept j)
      (sym simulations_kept j) (sym dictionaries_kept j) (sym masks_kept j)

  pub gate_placed_lem : (g : Gate) (t : Control) → with_control (with_gate_read c i g) i t ≡ gate_placed c i g t
  gate_placed_lem g t =
      λ j. with_own c (set c.controls i t) c.operations c.exits c.counts (set c.gates_read i g) (sym announcements_read-kept j)
      (sym simulations_kept j) (sym dictionaries_kept j) (sym masks_kept j)

  pub copy_placed_lem : (a : Announcement) (t : Control) → with_control (with_copy c i a) i t ≡ copy_placed c i a t
  copy_placed_lem a t =
      λ j. with_own c (set c.controls i t) c.operations c.exits c.counts (sym gates_read-kept j) (set c.announcements_read i a)
      (sym simulations_kept j) (sym dictionaries_kept j) (sym masks_kept j)

  -- a step of the process is counted: what it kept is then the machine's
  pub counted_placed :
      (control : Control) (gate : Gate) (a : Announcement) (s : Simulation) (d : Dictionary) (mask : ℕ) →
      with_count (with_steps (placed c i control gate a s d mask) (next c.steps)) i (next (local_at c i).steps)
      ≡ with_steps (with_local c i (after (local_at c i) control gate a s d mask)) (next c.steps)
  counted_placed control gate a s d mask =
      let operations = set-get_or c.operations i no_operation in
      let exits = set-get_or c.exits i false in
      λ j. with_steps (with_own c (set c.controls i control) (sym operations j) (sym exits j) (set c.counts i (next (local_at c i).steps))
      (set c.gates_read i gate) (set c.announcements_read i a) (set c.simulations i s) (set c.dictionaries i d) (set c.masks i mask)) (next
      c.steps)

module _ (b l : List ℕ) (long : 1456 ≤ length b) (i : ℕ) where
  -- the block counted is the card counted
  pub counted_is : card_of (counted b i) l ≡ with_count (with_steps (card_of b l) (next (card_of b l).steps)) i (next (local_at (card_of b l) i).steps)
  counted_is =
      let size = put_number_length b 4 1 0 (next (steps_in b)) in
      let steps = steps_is b l in
      let count = count_is b l i in
      count_stored (put_steps b (next (steps_in b))) l (omega arith) i (next (count_in b i))
      ∙ ap (λ (k : Card). with_count k i (next (count_in b i))) (steps_stored b l long (next (steps_in b)))
      ∙ λ j. with_count (with_steps (card_of b l) (next (steps j))) i (next (count j))

  -- AN ACCEPTED STEP: where an access leaves the shared cells of c and these parts of what its process keeps, the block counted holds what the machine
  -- makes of c
  pub accepted :
      (c : Card) (control : Control) (gate : Gate) (a : Announcement) (s : Simulation) (d : Dictionary) (mask : ℕ) →
      card_of b l ≡ placed c i control gate a s d mask →
      card_of (counted b i) l ≡ with_steps (with_local c i (after (local_at c i) control gate a s d mask)) (next c.steps)
  accepted c control gate a s d mask e =
      counted_is ∙ ap (λ (k : Card). with_count (with_steps k (next k.steps)) i (next (local_at k i).steps)) e ∙ counted_placed c i control gate a s d mask

  -- the parts put into the block
  pub control_put : (t : Control) → t.target < 256 → card_of (put_control b i t) l ≡ control_placed (card_of b l) i t
  control_put t p = control_stored b l long i t p ∙ control_placed_lem (card_of b l) i t

  pub gate_put : (g : Gate) (t : Control) → Fits g.holder → t.target < 256 → card_of (put_control (put_last_gate b i g) i t) l ≡ gate_placed (card_of b l) i g t
  gate_put g t f p =
      let size = put_row_length b 408 8 i 2 (gate_words g) in
      control_stored (put_last_gate b i g) l (omega arith) i t p
      ∙ ap (λ (k : Card). with_control k i t) (last_gate_stored b l long i g f) ∙ gate_placed_lem (card_of b l) i g t

  pub copy_put :
      (a : Announcement) (t : Control) → FitsAnnouncement a → t.target < 256 → card_of (put_control (put_last b i a) i t) l ≡ copy_placed (card_of b l) i a t
  copy_put a t f p =
      let size = put_row_length b 424 8 i 9 (announcement_words a) in
      control_stored (put_last b i a) l (omega arith) i t p
      ∙ ap (λ (k : Card). with_control k i t) (last_stored b l long i a f) ∙ copy_placed_lem (card_of b l) i a t

-- a shared cell put back as it was
module _ (b l : List ℕ) where
  pub gate_same : card_of b l ≡ with_gate (card_of b l) (gate_in b)
  gate_same = let e = gate_is b l in λ j. with_gate (card_of b l) (sym e j)

  pub announcement_same : (m : ℕ) → card_of b l ≡ with_announcement (card_of b l) m (announcement_in b m)
  announcement_same m =
      let c = card_of b l in
      let old = set-get_or c.announcements m open_announcement in
      let e = announcement_is b l m in
      (λ j. with_cells c c.gate (sym old j) c.records) ∙ λ j. with_announcement c m (sym e j)

  pub record_same : (v : ℕ) → card_of b l ≡ with_record (card_of b l) v (record_in b v)
  record_same v =
      let c = card_of b l in
      let old = set-get_or c.records v (open_record 0) in
      let e = record_is b l v in
      (λ j. with_cells c c.gate c.announcements (sym old j)) ∙ λ j. with_record c v (sym e j)

-- a swap stores its cell only where it won: elsewhere the cell is as it was
pub swap_stored :
    {A : Type 0} (b l : List ℕ) (put : A → List ℕ) (after : A → Card) (new old : A) (won : Bool) →
    card_of (put new) l ≡ after new → card_of b l ≡ after old → card_of (if_won (outcome won) (put (cond won new old)) b) l ≡ after (cond won new old)
swap_stored b l put after new old true e f = e
swap_stored b l put after new old false e f = f
