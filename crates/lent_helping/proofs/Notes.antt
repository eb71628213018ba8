-- A record read and noted on a block and a loan (lines H21 to H25) is what the machine notes on the card that stands there, where fewer than w items stand
use Prim.Native.Nat.{ℕ, ◌+◌, ◌*◌, ◌<◌, ◌≤◌, min}
use mathlib.Core.Path.{◌≡◌, refl, sym, ◌∙◌, ap}
use mathlib.Core.Logic.{◌≢◌, inl}
use mathlib.Core.Bool.{Bool, true, false, cond}
use mathlib.Core.List.{List}
use native.Mathlib.Omega.{arith}
use lib.Dec.{ltb}
use lib.ListN.{length, set}
use lib.Seq.{set-set, get_or-set_same}
use borrow.Author.Tests.{lt-ltb}
use Rattle.construction.specs.declared.accesses.Helped.{Helped}
use Rattle.construction.specs.declared.simulations.Simulated.{Simulated}
use Rattle.construction.specs.Cells.{current, previous}
use Rattle.construction.specs.Dictionary as construction
use Rattle.construction.specs.Dictionary.{empty, value_under, insert}
use Rattle.construction.specs.Marks.{with_bit}
use Rattle.construction.specs.Helping.{simulate}
use Rattle.construction.specs.Parts.{local_at, record_at, texts_of, program_of, with_own, with_record, with_steps}
use Rattle.construction.specs.Machine.{go_to, after_pause, helped, note, perform}
use Rattle.codes.specs.Types.{Gate, Record, Item, Dictionary, Control, Access, Card, P19}
use Rattle.codes.specs.Codes.{byte}
use Rattle.codes.proofs.Blocks.{length_table, table_set}
use Rattle.codes.proofs.Values.{FitsItem, FitsRecord}
use Rattle.block.specs.Layout.{room_in, noted_in, put_noted, control_in, put_control, last_in, put_simulation}
use Rattle.block.specs.Layout.{mask_in}
use Rattle.block.specs.Cards.{dictionary_at, dictionary_in, text_in, standing, card_of, with_control, with_simulation, with_dictionary, with_mask}
use Rattle.block.proofs.Gets.{long_card, variable_count_is, record_is, control_is, last_gate_is, last_is, simulation_is, mask_is, text_is, dictionary_is}
use Rattle.block.proofs.Standing.{number_same}
use Rattle.block.proofs.Puts.{simulation_stored, dictionary_stored, mask_stored, control_stored}
use Rattle.block.proofs.Fitting.{record_fits, control_fits, noted_fits}
use Rattle.loan.specs.Loans.{has_items, is_inserted, insert_block, insert_loan}
use Rattle.loan.specs.Simulated.{simulated_in, simulated_loan}
use Rattle.loan.proofs.Kept.{others, held_is, insert_only, insert_is, simulated_only, simulated_fits, simulated_is, simulated_target}
use Rattle.lent_machine.specs.Accesses.{next, counted}
use Rattle.lent_machine.proofs.Own.{placed, gates_read-kept, announcements_read-kept, accepted, control_put, record_same}
use Rattle.lent_machine.proofs.Keeping.{kept_room, only_number, simulation_kept}
use Rattle.lent_helping.specs.Helps.{number_in, lacked_in, put_marked, gone_on, noted_block, noted_loan, lacked_item, note_block, note_loan}
use Rattle.lent_helping.proofs.Keeps.{has_kept, insert_kept, marked_kept, note_step_kept}

either {ℓ κ} : {A : Type ℓ} (P : A → Type κ) (t : Bool) {x y : A} → P x → P y → P (cond t x y)
either P true p q = p
either P false p q = q

item_fits : (number v : ℕ) (r : Record) → v < 256 → FitsRecord r → FitsItem (construction.item_of number v r)
unfolding value_under current previous
item_fits number v r p f =
    record {
      variable = p;
      value = either (λ (x : ℕ). x < 4294967296) (ltb r.seq number)
          (either (λ (x : ℕ). x < 4294967296) r.toggle f.val1 f.val0) (either (λ (x : ℕ). x < 4294967296) r.toggle f.val0 f.val1);
      val0 = f.val0;
      val1 = f.val1;
    }

-- ON THE CARD: the program goes on that process i simulates
abbrev run_on : Card → ℕ → ℕ → Dictionary → Simulated
run_on c i number d =
    let o = local_at c i in
    simulate c.variable_count (program_of (texts_of c) o.announcement.program number) o.announcement.words o.simulation d

abbrev gone_with : Card → ℕ → ℕ → Simulated → Card
gone_with c i number x = with_control (with_simulation (with_dictionary c i x.dictionary) i x.simulation) i (after_pause number x.dictionary x.pause)

abbrev gone_card : Card → ℕ → ℕ → Card
gone_card c i number = gone_with c i number (run_on c i number (local_at c i).dictionary)

-- what it then keeps, with an item more
module _ (c : Card) (i number mask : ℕ) (d : Dictionary) (h : i < length c.dictionaries) where
  noted_placed :
      gone_card (with_dictionary (with_mask c i mask) i d) i number
      ≡ (let o = local_at c i in
      let x = helped number (run_on c i number d) mask in
      placed c i x.control o.gate o.announcement x.simulation x.dictionary x.mask)
  noted_placed =
      let same = get_or-set_same c.dictionaries i d empty h in
      let x = run_on c i number d in
      let gates_read = gates_read-kept c i in
      let announcements_read = announcements_read-kept c i in
      let twice = set-set c.dictionaries i d x.dictionary in
      ap (λ (e : Dictionary). gone_with (with_dictionary (with_mask c i mask) i d) i number (run_on c i number e)) same
      ∙ λ j. with_own c (set c.controls i (after_pause number x.dictionary x.pause)) c.operations c.exits c.counts (sym gates_read j)
      (sym announcements_read j)
      (set c.simulations i x.simulation) (twice j) (set c.masks i mask)

-- ON THE BLOCK AND THE LOAN
abbrev with_dictionaries : Card → List Dictionary → Card
with_dictionaries c xs = with_own c c.controls c.operations c.exits c.counts c.gates_read c.announcements_read c.simulations xs c.masks

-- a loan that differs in the items of process i alone
pub loan_stored :
    (b l m : List ℕ) (i : ℕ) → 1456 ≤ length b → i < 8 → ((k : ℕ) → k < 8 → k ≢ i → dictionary_in b m k ≡ dictionary_in b l k) →
    card_of b m ≡ with_dictionary (card_of b l) i (dictionary_in b m i)
unfolding standing
loan_stored b l m i long h same =
    let e = table_set 8 i (λ k. dictionary_in b l k) (λ k. dictionary_in b m k) (dictionary_in b m i) h refl same in
    long_card b m long ∙ (λ j. with_dictionaries (standing b l) (e j)) ∙ sym (ap (λ (k : Card). with_dictionary k i (dictionary_in b m i)) (long_card b l long))

pub dictionaries_long : (b l : List ℕ) → 1456 ≤ length b → length (card_of b l).dictionaries ≡ 8
unfolding standing
dictionaries_long b l long = ap (λ (c : Card). length c.dictionaries) (long_card b l long) ∙ length_table 8 (λ i. dictionary_in b l i)

block_inserted : (b l : List ℕ) (i : ℕ) → has_items b l i ≡ true → noted_in b i < room_in b → insert_block b l i ≡ put_noted b i (noted_in b i + 1)
unfolding insert_block is_inserted
block_inserted b l i has room = rw (has, lt-ltb (noted_in b i) (room_in b) room)

-- the set of the variables noted is apart from how many these are
marked_noted : (b : List ℕ) (i v : ℕ) → i < 8 → noted_in (put_marked b i v) i ≡ noted_in b i
marked_noted b i v h =
    let k = marked_kept b i v in
    let room = kept_room k in
    let only = only_number b 584 592 584 8 i (omega arith) (with_bit (mask_in b i) v) (omega arith) in
    let count = number_same b (put_marked b i v) 576 8 i k.size (only.at (576 + i) (inl (omega arith))) in
    λ j. min (byte (count j)) (room j)

module _ (b l : List ℕ) (long : 1456 ≤ length b) (i : ℕ) (h : i < 8) (has : has_items b l i ≡ true) where
  -- lines H24 and H25: one item more
  pub insert_stored :
      (e : Item) → FitsItem e → noted_in b i < room_in b → card_of (insert_block b l i) (insert_loan b l i e) ≡ with_dictionary (card_of b l) i
      (insert (local_at (card_of b l) i).dictionary e)
  insert_stored e fits room =
      let m = insert_loan b l i e in
      let n = noted_fits b i in
      let all : min (noted_in b i + 1) (room_in b) ≡ noted_in b i + 1 = omega arith in
      ap (λ (c : List ℕ). card_of c m) (block_inserted b l i has room)
      ∙ dictionary_stored b l long m i (noted_in b i + 1) (omega arith) (λ k p ne. others b l m i (insert_only b l i e) k ne)
      ∙ ap (λ (k : ℕ). with_dictionary (card_of b l) i (dictionary_at m (room_in b * i) k)) all
      ∙ ap (λ (d : Dictionary). with_dictionary (card_of b l) i d) (insert_is b l i e fits has room ∙ ap (λ (d : Dictionary). insert d e) (dictionary_is b l i))

  -- lines H20 to H30: the simulation goes on
  module _ (number : ℕ) where
    simulated_named : simulated_in b l i number ≡ run_on (card_of b l) i number (local_at (card_of b l) i).dictionary
    simulated_named =
        let c = card_of b l in
        let n = variable_count_is b l in
        let a = last_is b l i in
        let y : text_in b (last_in b i).program number ≡ program_of (texts_of c) (local_at c i).announcement.program number =
        text_is b l (last_in b i).program number ∙ (λ j. program_of (texts_of c) (a j).program number) in
        let s = simulation_is b l i in
        let d = held_is b l i has ∙ dictionary_is b l i in
        λ j. simulate (n j) (y j) (a j).words (s j) (d j)

    pub gone_on_is : card_of (gone_on b l i number) (simulated_loan b l i number) ≡ gone_card (card_of b l) i number
    gone_on_is =
        let x = simulated_in b l i number in
        let m = simulated_loan b l i number in
        let t = after_pause number x.dictionary x.pause in
        let size = (simulation_kept b i x.simulation).size in
        control_stored (put_simulation b i x.simulation) m (omega arith) i t (simulated_target b l i number (omega arith))
        ∙ ap (λ (k : Card). with_control k i t) (simulation_stored b m long i x.simulation (simulated_fits b l i number).0)
        ∙ ap (λ (k : Card). with_control (with_simulation k i x.simulation) i t)
        (loan_stored b l m i long h (λ k p ne. others b l m i (simulated_only b l i number) k ne)
        ∙ ap (λ (d : Dictionary). with_dictionary (card_of b l) i d) (simulated_is b l i number (omega arith) has))
        ∙ ap (λ (z : Simulated). gone_with (card_of b l) i number z) simulated_named

-- lines H23 to H25, together
module _ (b l : List ℕ) (long : 1456 ≤ length b) (i : ℕ) (h : i < 8) (has : has_items b l i ≡ true) (room : noted_in b i < room_in b) where
  marked_is : (v : ℕ) → card_of (put_marked b i v) l ≡ with_mask (card_of b l) i (with_bit (local_at (card_of b l) i).mask v)
  marked_is v =
      mask_stored b l long i (with_bit (mask_in b i) v) ∙ ap (λ (k : ℕ). with_mask (card_of b l) i (with_bit k v)) (mask_is b l i)

  noted_is :
      (number : ℕ) (e : Item) → FitsItem e →
      let o = local_at (card_of b l) i in
      card_of (noted_block b l i number e) (noted_loan b l i number e)
      ≡ gone_card (with_dictionary (with_mask (card_of b l) i (with_bit o.mask e.variable)) i (insert o.dictionary e)) i number
  noted_is number e fits =
      let c = put_marked b i e.variable in
      let marked = marked_kept b i e.variable in
      let size = marked.size in
      let more = (insert_kept c l i).size in
      let count = marked_noted b i e.variable h in
      let space = kept_room marked in
      let mine = has_kept b c l l i marked refl has in
      let after = has_kept c (insert_block c l i) l (insert_loan c l i e) i (insert_kept c l i) (insert_only c l i e).long mine in
      gone_on_is (insert_block c l i) (insert_loan c l i e) (omega arith) i h after number
      ∙ ap (λ (k : Card). gone_card k i number)
      (insert_stored c l (omega arith) i h mine e fits (rw (count, space) room)
      ∙ ap (λ (k : Card). with_dictionary k i (insert (local_at k i).dictionary e)) (marked_is e.variable))

  -- the access on what is taken out
  abbrev noted_as : Record → ℕ → Control → Helped
  noted_as cell number control =
      let c = card_of b l in
      let o = local_at c i in
      note c.variable_count (program_of (texts_of c) o.announcement.program number) o.announcement.words cell number control
      o.simulation o.dictionary o.mask

  -- the card after the access, but for the counts
  abbrev noted_card : ℕ → Record → Helped → Card
  noted_card v cell x =
      let o = local_at (card_of b l) i in
      placed (with_record (card_of b l) v cell) i x.control o.gate o.announcement x.simulation x.dictionary x.mask

  note_placed :
      card_of (note_block b l i) (note_loan b l i) ≡ noted_card (control_in b i).target (lacked_in b i) (noted_as (lacked_in b i) (number_in b i) (control_in b i))
  unfolding note_block note_loan note
  note_placed = go (ltb (number_in b i) (lacked_in b i).seq)
    where
      go :
          (t : Bool) →
          let number = number_in b i in
          let o = local_at (card_of b l) i in
          let e = lacked_item b i in
          card_of (cond t (put_control b i (go_to (control_in b i) P19)) (noted_block b l i number e)) (cond t l (noted_loan b l i number e))
          ≡ noted_card (control_in b i).target (lacked_in b i)
          (cond t (record { control = go_to (control_in b i) P19; simulation = o.simulation; dictionary = o.dictionary; mask = o.mask })
          (helped number (run_on (card_of b l) i number (insert o.dictionary e)) (with_bit o.mask (control_in b i).target)))
      go true =
          let o = local_at (card_of b l) i in
          let t = go_to (control_in b i) P19 in
          control_put b l long i t (control_fits b i)
          ∙ ap (λ (k : Card). placed k i t o.gate o.announcement o.simulation o.dictionary o.mask) (record_same b l (control_in b i).target)
      go false =
          let c = card_of b l in
          let o = local_at c i in
          let number = number_in b i in
          let e = lacked_item b i in
          let mask = with_bit o.mask (control_in b i).target in
          let x = helped number (run_on c i number (insert o.dictionary e)) mask in
          let fits = item_fits number (control_in b i).target (lacked_in b i) (control_fits b i) (record_fits b (control_in b i).target) in
          let size = dictionaries_long b l long in
          noted_is number e fits
          ∙ noted_placed c i number mask (insert o.dictionary e) (omega arith)
          ∙ ap (λ (k : Card). placed k i x.control o.gate o.announcement x.simulation x.dictionary x.mask)
          (record_same b l (control_in b i).target)

  -- AN ACCEPTED STEP THAT NOTES A RECORD (line H21): the block and the loan after it hold what `advance` makes of the card that they held
  pub note_step_is :
      card_of (counted (note_block b l i) i) (note_loan b l i) ≡ with_steps (perform Access.Note (card_of b l) i).card (next (card_of b l).steps)
  unfolding perform
  note_step_is =
      let c = card_of b l in
      let o = local_at c i in
      let gate = last_gate_is b l i in
      let number : number_in b i ≡ o.gate.seq = ap (λ (g : Gate). g.seq) gate in
      let control = control_is b l i in
      let cell : lacked_in b i ≡ record_at c o.control.target = record_is b l (control_in b i).target ∙ (λ j. record_at c (control j).target) in
      let found = record_at c o.control.target in
      let x = noted_as found o.gate.seq o.control in
      let size = (note_step_kept b l i).size in
      accepted (note_block b l i) (note_loan b l i) (omega arith) i (with_record c o.control.target found) x.control o.gate o.announcement
      x.simulation x.dictionary x.mask
      (note_placed ∙ λ j. noted_card (control j).target (cell j) (noted_as (cell j) (number j) (control j)))
