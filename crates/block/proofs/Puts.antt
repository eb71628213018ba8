-- A part put into a block is that part of the card replaced: one law for parts of several words and one for parts of one word, cited by each part. A put
-- keeps the length of the block; into a block that is too short, or past the last part, it puts nothing.
use Prim.Native.Nat.{ℕ, ◌+◌, ◌*◌, ◌<◌, ◌≤◌, min}
use mathlib.Core.Path.{◌≡◌, refl, sym, ◌∙◌, ap}
use mathlib.Core.Logic.{◌≢◌}
use mathlib.Core.Bool.{Bool, true, false, cond, ◌&&◌}
use mathlib.Core.List.{List, [], ◌∷◌}
use native.Mathlib.Omega.{arith}
use lib.Dec.{leb, ltb}
use lib.ListN.{length, get_or, set, length-set}
use lib.Seq.{set_out, get_or-set_same, get_or-set_other}
use borrow.Author.Tests.{ltb-true, ltb-false, lt-leb, le-ltb}
use Rattle.construction.specs.Cells.{open_gate}
use Rattle.construction.specs.Dictionary.{empty}
use Rattle.construction.specs.Instructions.{no_program}
use Rattle.construction.specs.Opening.{fresh, no_contents}
use Rattle.construction.specs.Parts.{with_cells, with_gate, with_announcement, with_record, with_own, with_steps, with_revision}
use Rattle.codes.specs.Types.{Gate, Announcement, Record, Control, Operation, Simulation, Dictionary, Program, Card}
use Rattle.codes.specs.Parts.{word_at, part, stores, table, rows}
use Rattle.codes.specs.Codes.{byte, half, odd, bit, gate_of, gate_words, control_of, control_words, announcement_of, announcement_words, record_of, record_words}
use Rattle.codes.specs.Codes.{operation_of, operation_words, simulation_of, simulation_words, program_of, program_words}
use Rattle.codes.proofs.Blocks.{length_stores, length_table, inside, table_same, table_set, rows_set}
use Rattle.codes.proofs.Values.{Fits, gate_back, control_back, FitsAnnouncement, announcement_back, FitsRecord, record_back, FitsOperation, operation_back}
use Rattle.construction.proofs.Simulating.Sizes.{FitsSimulation}
use Rattle.codes.proofs.Values.{simulation_back, odd_back}
use Rattle.codes.proofs.Programs.{FitsProgram, program_back}
use Rattle.block.specs.Layout.{is_room, row_at, put_row, number_at, put_number, room_in, put_process_count, put_variable_count, put_program_count, put_limit, put_room}
use Rattle.block.specs.Layout.{put_start, put_steps, put_gate, put_announcement, put_record, put_control, put_operation, put_exit, put_count, put_last_gate, put_last}
use Rattle.block.specs.Layout.{put_simulation, put_noted, put_mask, put_from, put_opening, put_earlier, put_later, keep_later}
use Rattle.block.specs.Cards.{dictionary_at, dictionary_in, numbers, standing, card_of, with_control, with_operation, with_exit, with_count, with_gate_read}
use Rattle.block.specs.Cards.{with_copy, with_simulation, with_dictionary, with_mask, with_head, with_process_count, with_variable_count, with_program_count}
use Rattle.block.specs.Cards.{with_limit, with_start, with_texts, with_opening, with_from, with_earlier, with_later}
use Rattle.block.proofs.Rooms.{room_true}
use Rattle.block.proofs.Gets.{long_card, later_text_is, empty_at}
use Rattle.block.proofs.Standing.{Only, only_stores, only_set, number_same, standing_only}

-- where there is no room
no_room_short : (b : List ℕ) (i n : ℕ) → length b < 1456 → is_room b i n ≡ false
unfolding is_room
no_room_short b i n h = rw (lt-leb 1456 (length b) h)

no_room_past : (b : List ℕ) (i n : ℕ) → n ≤ i → is_room b i n ≡ false
unfolding is_room
no_room_past b i n h = rw (le-ltb i n h) (neither (leb 1456 (length b)))
  where
    neither : (t : Bool) → t && false ≡ false
    neither true = refl
    neither false = refl

module _ (b : List ℕ) (base n i : ℕ) where
  module _ (size : ℕ) (words : List ℕ) where
    pub put_row_here : 1456 ≤ length b → i < n → put_row b base size n i words ≡ stores b (base + size * i) words
    unfolding put_row
    put_row_here h p = rw (room_true b i n h p)

    pub put_row_short : length b < 1456 → put_row b base size n i words ≡ b
    unfolding put_row
    put_row_short h = rw (no_room_short b i n h)

    pub put_row_past : n ≤ i → put_row b base size n i words ≡ b
    unfolding put_row
    put_row_past h = rw (no_room_past b i n h)

    pub put_row_length : length (put_row b base size n i words) ≡ length b
    unfolding put_row
    put_row_length = go (is_room b i n)
      where
        go : (t : Bool) → length (cond t (stores b (base + size * i) words) b) ≡ length b
        go true = length_stores b (base + size * i) words
        go false = refl

  module _ (x : ℕ) where
    pub put_number_here : 1456 ≤ length b → i < n → put_number b base n i x ≡ set b (base + i) x
    unfolding put_number
    put_number_here h p = rw (room_true b i n h p)

    pub put_number_short : length b < 1456 → put_number b base n i x ≡ b
    unfolding put_number
    put_number_short h = rw (no_room_short b i n h)

    pub put_number_past : n ≤ i → put_number b base n i x ≡ b
    unfolding put_number
    put_number_past h = rw (no_room_past b i n h)

    pub put_number_length : length (put_number b base n i x) ≡ length b
    unfolding put_number
    put_number_length = go (is_room b i n)
      where
        go : (t : Bool) → length (cond t (set b (base + i) x) b) ≡ length b
        go true = length-set b (base + i) x
        go false = refl

number_of : (b : List ℕ) (base n i : ℕ) → 1456 ≤ length b → i < n → number_at b base n i ≡ word_at b (base + i)
unfolding number_at
number_of b base n i h p = rw (room_true b i n h p)

abbrev with_dictionaries : Card → List Dictionary → Card
with_dictionaries c xs = with_own c c.controls c.operations c.exits c.counts c.gates_read c.announcements_read c.simulations xs c.masks

row_of :
    {A : Type 0} (b : List ℕ) (base size n i : ℕ) (decode : List ℕ → A) (none : A) → 1456 ≤ length b → i < n →
    decode (part b (base + size * i) size) ≡ row_at b base size n decode none i
unfolding row_at
row_of b base size n i decode none h p = rw (room_true b i n h p)

unnoted_at : (l : List ℕ) (room i n : ℕ) → n ≡ 0 → dictionary_at l (room * i) (min (byte n) room) ≡ empty
unnoted_at l room i n e =
    let z : min (byte n) room ≡ 0 = rw e (omega arith) in
    ap (λ (k : ℕ). dictionary_at l (room * i) k) z ∙ empty_at l (room * i)

-- a loan in which every dictionary is the same makes no difference
pub loan_same : (b l m : List ℕ) → ((k : ℕ) → k < 8 → dictionary_in b m k ≡ dictionary_in b l k) → card_of b m ≡ card_of b l
unfolding card_of standing
loan_same b l m h =
    let e = table_same 8 (λ k. dictionary_in b l k) (λ k. dictionary_in b m k) h in
    λ j. cond (leb 1456 (length b)) (with_dictionaries (standing b l) (e j)) (fresh no_contents)

module _ (b l : List ℕ) (long : 1456 ≤ length b) where
  -- one list of the card, and the card with another list there
  module _ {A : Type 0} (view : Card → List A) (other : Card → List A → Card) where
    abbrev replaced : Card → ℕ → A → Card
    replaced c i x = other c (set (view c) i x)

    -- element i of the list replaced by x, in a block c with a loan m
    moved :
        (c m : List ℕ) (i : ℕ) (x : A) → length c ≡ length b → standing c m ≡ other (standing b l) (view (standing c m)) →
        view (standing c m) ≡ set (view (standing b l)) i x → card_of c m ≡ replaced (card_of b l) i x
    moved c m i x e s v =
        long_card c m (omega arith) ∙ s ∙ ap (λ (xs : List A). other (standing b l) xs) v ∙ sym (ap (λ (k : Card). replaced k i x) (long_card b l long))

    -- nothing replaced past the end
    unmoved :
        (i : ℕ) (x : A) → length (view (standing b l)) ≤ i → other (standing b l) (view (standing b l)) ≡ standing b l → card_of b l ≡ replaced (card_of b l) i x
    unmoved i x h s =
        long_card b l long ∙ sym s ∙ ap (λ (xs : List A). other (standing b l) xs) (sym (set_out (view (standing b l)) i x h))
        ∙ sym (ap (λ (k : Card). replaced k i x) (long_card b l long))

    module _ (same : other (standing b l) (view (standing b l)) ≡ standing b l) (i : ℕ) (x : A) where
      row_put :
          (base n : ℕ) (decode : List ℕ → A) (words : List ℕ) → (i < n → decode words ≡ x) → base + length words * n ≤ 1456 →
          ((c : List ℕ) → view (standing c l) ≡ rows c base (length words) n decode) →
          ((c : List ℕ) → Only b c base (base + length words * n) → length c ≡ length b → standing c l ≡ other (standing b l) (view (standing c l))) →
          card_of (put_row b base (length words) n i words) l ≡ replaced (card_of b l) i x
      row_put base n decode words back fits sees only = go (ltb i n) refl
        where
          go : (t : Bool) → ltb i n ≡ t → card_of (put_row b base (length words) n i words) l ≡ replaced (card_of b l) i x
          go true e =
              let p = ltb-true i n e in
              let size = length words in
              let c = stores b (base + size * i) words in
              let room = inside base size n i p in
              let same_length = length_stores b (base + size * i) words in
              ap (λ (d : List ℕ). card_of d l) (put_row_here b base n i size words long p)
              ∙ moved c l i x same_length (only c (only_stores b (base + size * i) words base (base + size * n) (omega arith) (omega arith)) same_length)
              (sees c ∙ rows_set b base n decode i words p (omega arith) ∙ ap (λ (xs : List A). set xs i (decode words)) (sym (sees b))
              ∙ ap (λ (y : A). set (view (standing b l)) i y) (back p))
          go false e =
              let p = ltb-false i n e in
              let count = ap length (sees b) ∙ length_table n (λ k. decode (part b (base + length words * k) (length words))) in
              ap (λ (d : List ℕ). card_of d l) (put_row_past b base n i (length words) words p) ∙ unmoved i x (omega arith) same

      number_put :
          (base n : ℕ) (decode : ℕ → A) (w : ℕ) → decode w ≡ x → base + n ≤ 1456 →
          ((c : List ℕ) → view (standing c l) ≡ numbers c base n decode) →
          ((c : List ℕ) → Only b c base (base + n) → length c ≡ length b → standing c l ≡ other (standing b l) (view (standing c l))) →
          card_of (put_number b base n i w) l ≡ replaced (card_of b l) i x
      number_put base n decode w back fits sees only = go (ltb i n) refl
        where
          go : (t : Bool) → ltb i n ≡ t → card_of (put_number b base n i w) l ≡ replaced (card_of b l) i x
          go true e =
              let p = ltb-true i n e in
              let c = set b (base + i) w in
              let same_length = length-set b (base + i) w in
              let new : numbers c base n decode ≡ set (numbers b base n decode) i x =
              table_set n i (λ k. decode (word_at b (base + k))) (λ k. decode (word_at c (base + k))) x p
              (ap decode (get_or-set_same b (base + i) w 0 (omega arith)) ∙ back)
              (λ k q ne. ap decode (get_or-set_other b (base + i) (base + k) w 0 (λ z. ne (omega arith)))) in
              ap (λ (d : List ℕ). card_of d l) (put_number_here b base n i w long p)
              ∙ moved c l i x same_length (only c (only_set b (base + i) w base (base + n) (omega arith) (omega arith)) same_length)
              (sees c ∙ new ∙ ap (λ (xs : List A). set xs i x) (sym (sees b)))
          go false e =
              let p = ltb-false i n e in
              let count = ap length (sees b) ∙ length_table n (λ k. decode (word_at b (base + k))) in
              ap (λ (d : List ℕ). card_of d l) (put_number_past b base n i w p) ∙ unmoved i x (omega arith) same

  -- the counts, the step limit and the starting values
  pub process_count_stored : (x : ℕ) → x < 256 → card_of (put_process_count b x) l ≡ with_process_count (card_of b l) x
  unfolding standing table
  process_count_stored x p =
      number_put (λ c. c.process_count ∷ []) (λ c xs. with_process_count c (get_or xs 0 0)) refl 0 x 0 1 byte x (omega arith) (omega arith) (λ c. refl)
      (λ c o e. standing_only 0 1 b c l o e)

  pub variable_count_stored : (x : ℕ) → x < 256 → card_of (put_variable_count b x) l ≡ with_variable_count (card_of b l) x
  unfolding standing table
  variable_count_stored x p =
      number_put (λ c. c.variable_count ∷ []) (λ c xs. with_variable_count c (get_or xs 0 0)) refl 0 x 1 1 byte x (omega arith) (omega arith) (λ c. refl)
      (λ c o e. standing_only 1 2 b c l o e)

  pub program_count_stored : (x : ℕ) → x < 256 → card_of (put_program_count b x) l ≡ with_program_count (card_of b l) x
  unfolding standing table
  program_count_stored x p =
      number_put (λ c. c.program_count ∷ []) (λ c xs. with_program_count c (get_or xs 0 0)) refl 0 x 2 1 byte x (omega arith) (omega arith) (λ c. refl)
      (λ c o e. standing_only 2 3 b c l o e)

  pub limit_stored : (x : ℕ) → card_of (put_limit b x) l ≡ with_limit (card_of b l) x
  unfolding standing table
  limit_stored x =
      number_put (λ c. c.limit ∷ []) (λ c xs. with_limit c (get_or xs 0 0)) refl 0 x 3 1 (λ w. w) x refl (omega arith) (λ c. refl)
      (λ c o e. standing_only 3 4 b c l o e)

  pub start_stored : (v x : ℕ) → x < 4294967296 → card_of (put_start b v x) l ≡ with_start (card_of b l) v x
  unfolding standing
  start_stored v x p =
      number_put (λ c. c.starts) (λ c xs. with_head c c.process_count c.variable_count c.program_count c.limit xs) refl v x 592 64 half x
      (omega arith) (omega arith) (λ c. refl) (λ c o e. standing_only 592 656 b c l o e)

  -- w, where no process has noted anything
  pub room_stored : (w : ℕ) → ((i : ℕ) → i < 8 → number_at b 576 8 i ≡ 0) → (card_of (put_room b w) l ≡ card_of b l) × (room_in (put_room b w) ≡ min w 32)
  unfolding standing
  room_stored w none =
      let c = set b 7 w in
      let same = length-set b 7 w in
      let here : number_at c 7 1 0 ≡ w = number_of c 7 1 0 (omega arith) (omega arith) ∙ get_or-set_same b 7 w 0 (omega arith) in
      let put : put_room b w ≡ c = put_number_here b 7 1 0 w long (omega arith) in
      let dictionaries : table 8 (λ i. dictionary_in c l i) ≡ table 8 (λ i. dictionary_in b l i) =
      table_same 8 (λ i. dictionary_in b l i) (λ i. dictionary_in c l i)
      (λ i p.
      let z = none i p in
      let y = number_same b c 576 8 i same (get_or-set_other b 7 (576 + i) w 0 (λ q. omega arith)) ∙ z in
      unnoted_at l (room_in c) i (number_at c 576 8 i) y ∙ sym (unnoted_at l (room_in b) i (number_at b 576 8 i) z)) in (
        ap (λ (d : List ℕ). card_of d l) put ∙ long_card c l (omega arith) ∙ standing_only 7 8 b c l (only_set b 7 w 7 8 (omega arith) (omega arith)) same
            ∙ ap (λ (xs : List Dictionary). with_dictionaries (standing b l) xs) dictionaries ∙ sym (long_card b l long),
        ap room_in put ∙ ap (λ (x : ℕ). min x 32) here,
      )

  -- the accepted steps and the shared cells
  pub steps_stored : (x : ℕ) → card_of (put_steps b x) l ≡ with_steps (card_of b l) x
  unfolding standing table
  steps_stored x =
      number_put (λ c. c.steps ∷ []) (λ c xs. with_steps c (get_or xs 0 0)) refl 0 x 4 1 (λ w. w) x refl (omega arith) (λ c. refl)
      (λ c o e. standing_only 4 5 b c l o e)

  pub gate_stored : (g : Gate) → Fits g.holder → card_of (put_gate b g) l ≡ with_gate (card_of b l) g
  unfolding standing table
  gate_stored g p =
      row_put (λ c. c.gate ∷ []) (λ c xs. with_gate c (get_or xs 0 open_gate)) refl 0 g 5 1 gate_of (gate_words g) (λ h. gate_back g p) (omega arith) (λ c. refl)
      (λ c o e. standing_only 5 7 b c l o e)

  pub announcement_stored : (m : ℕ) (a : Announcement) → FitsAnnouncement a → card_of (put_announcement b m a) l ≡ with_announcement (card_of b l) m a
  unfolding standing
  announcement_stored m a p =
      row_put (λ c. c.announcements) (λ c xs. with_cells c c.gate xs c.records) refl m a 8 8 announcement_of (announcement_words a)
      (λ h. announcement_back a p) (omega arith) (λ c. refl) (λ c o e. standing_only 8 80 b c l o e)

  pub record_stored : (v : ℕ) (r : Record) → FitsRecord r → card_of (put_record b v r) l ≡ with_record (card_of b l) v r
  unfolding standing
  record_stored v r p =
      row_put (λ c. c.records) (λ c xs. with_cells c c.gate c.announcements xs) refl v r 80 64 record_of (record_words r)
      (λ h. record_back r p) (omega arith) (λ c. refl) (λ c o e. standing_only 80 336 b c l o e)

  -- what a process keeps
  pub control_stored : (i : ℕ) (t : Control) → t.target < 256 → card_of (put_control b i t) l ≡ with_control (card_of b l) i t
  unfolding standing
  control_stored i t p =
      row_put (λ c. c.controls)
      (λ c xs. with_own c xs c.operations c.exits c.counts c.gates_read c.announcements_read c.simulations c.dictionaries c.masks)
      refl i t 336 8 control_of (control_words t) (λ h. control_back t p) (omega arith) (λ c. refl) (λ c o e. standing_only 336 352 b c l o e)

  pub operation_stored : (i : ℕ) (o : Operation) → FitsOperation o → card_of (put_operation b i o) l ≡ with_operation (card_of b l) i o
  unfolding standing
  operation_stored i o p =
      row_put (λ c. c.operations)
      (λ c xs. with_own c c.controls xs c.exits c.counts c.gates_read c.announcements_read c.simulations c.dictionaries c.masks)
      refl i o 352 8 operation_of (operation_words o) (λ h. operation_back o p) (omega arith) (λ c. refl) (λ c h e. standing_only 352 392 b c l h e)

  pub exit_stored : (i : ℕ) (t : Bool) → card_of (put_exit b i t) l ≡ with_exit (card_of b l) i t
  unfolding standing
  exit_stored i t =
      number_put (λ c. c.exits)
      (λ c xs. with_own c c.controls c.operations xs c.counts c.gates_read c.announcements_read c.simulations c.dictionaries c.masks)
      refl i t 392 8 odd (bit t) (odd_back t) (omega arith) (λ c. refl) (λ c o e. standing_only 392 400 b c l o e)

  pub count_stored : (i k : ℕ) → card_of (put_count b i k) l ≡ with_count (card_of b l) i k
  unfolding standing
  count_stored i k =
      number_put (λ c. c.counts)
      (λ c xs. with_own c c.controls c.operations c.exits xs c.gates_read c.announcements_read c.simulations c.dictionaries c.masks)
      refl i k 400 8 (λ w. w) k refl (omega arith) (λ c. refl) (λ c o e. standing_only 400 408 b c l o e)

  pub last_gate_stored : (i : ℕ) (g : Gate) → Fits g.holder → card_of (put_last_gate b i g) l ≡ with_gate_read (card_of b l) i g
  unfolding standing
  last_gate_stored i g p =
      row_put (λ c. c.gates_read)
      (λ c xs. with_own c c.controls c.operations c.exits c.counts xs c.announcements_read c.simulations c.dictionaries c.masks)
      refl i g 408 8 gate_of (gate_words g) (λ h. gate_back g p) (omega arith) (λ c. refl) (λ c o e. standing_only 408 424 b c l o e)

  pub last_stored : (i : ℕ) (a : Announcement) → FitsAnnouncement a → card_of (put_last b i a) l ≡ with_copy (card_of b l) i a
  unfolding standing
  last_stored i a p =
      row_put (λ c. c.announcements_read)
      (λ c xs. with_own c c.controls c.operations c.exits c.counts c.gates_read xs c.simulations c.dictionaries c.masks)
      refl i a 424 8 announcement_of (announcement_words a) (λ h. announcement_back a p) (omega arith) (λ c. refl) (λ c o e. standing_only 424 496 b c l o e)

  pub simulation_stored : (i : ℕ) (s : Simulation) → FitsSimulation s → card_of (put_simulation b i s) l ≡ with_simulation (card_of b l) i s
  unfolding standing
  simulation_stored i s p =
      row_put (λ c. c.simulations)
      (λ c xs. with_own c c.controls c.operations c.exits c.counts c.gates_read c.announcements_read xs c.dictionaries c.masks)
      refl i s 496 8 simulation_of (simulation_words s) (λ h. simulation_back s p) (omega arith) (λ c. refl) (λ c o e. standing_only 496 576 b c l o e)

  pub mask_stored : (i k : ℕ) → card_of (put_mask b i k) l ≡ with_mask (card_of b l) i k
  unfolding standing
  mask_stored i k =
      number_put (λ c. c.masks)
      (λ c xs. with_own c c.controls c.operations c.exits c.counts c.gates_read c.announcements_read c.simulations c.dictionaries xs)
      refl i k 584 8 (λ w. w) k refl (omega arith) (λ c. refl) (λ c o e. standing_only 584 592 b c l o e)

  -- the length of a dictionary, with a loan that has other items for it and the old ones for every other process
  pub dictionary_stored :
      (m : List ℕ) (i n : ℕ) → n < 256 → ((k : ℕ) → k < 8 → k ≢ i → dictionary_in b m k ≡ dictionary_in b l k) →
      card_of (put_noted b i n) m ≡ with_dictionary (card_of b l) i (dictionary_at m (room_in b * i) (min n (room_in b)))
  unfolding standing
  dictionary_stored m i n p others = go (ltb i 8) refl
    where
      go : (t : Bool) → ltb i 8 ≡ t → card_of (put_noted b i n) m ≡ with_dictionary (card_of b l) i (dictionary_at m (room_in b * i) (min n (room_in b)))
      go true e =
          let h = ltb-true i 8 e in
          let c = set b (576 + i) n in
          let same = length-set b (576 + i) n in
          let room = number_same b c 7 1 0 same (get_or-set_other b (576 + i) 7 n 0 (λ z. omega arith)) in
          let here : number_at c 576 8 i ≡ n = number_of c 576 8 i (omega arith) h ∙ get_or-set_same b (576 + i) n 0 (omega arith) in
          let small : byte n ≡ n = omega arith in
          let new : table 8 (λ k. dictionary_in c m k) ≡ set (table 8 (λ k. dictionary_in b l k)) i (dictionary_at m (room_in b * i) (min n (room_in b))) =
          table_set 8 i (λ k. dictionary_in b l k) (λ k. dictionary_in c m k) (dictionary_at m (room_in b * i) (min n (room_in b))) h
          (λ j. dictionary_at m (min (room j) 32 * i) (min ((ap byte here ∙ small) j) (min (room j) 32)))
          (λ k q ne.
          let z = number_same b c 576 8 k same (get_or-set_other b (576 + i) (576 + k) n 0 (λ y. ne (omega arith))) in
          (λ j. dictionary_at m (min (room j) 32 * k) (min (byte (z j)) (min (room j) 32))) ∙ others k q ne) in
          ap (λ (d : List ℕ). card_of d m) (put_number_here b 576 8 i n long h)
          ∙ moved (λ c. c.dictionaries) with_dictionaries c m i (dictionary_at m (room_in b * i) (min n (room_in b))) same
          (standing_only 576 584 b c m (only_set b (576 + i) n 576 584 (omega arith) (omega arith)) same) new
      go false e =
          let h = ltb-false i 8 e in
          let count = length_table 8 (λ k. dictionary_in b l k) in
          ap (λ (d : List ℕ). card_of d m) (put_number_past b 576 8 i n h)
          ∙ loan_same b l m (λ k q. others k q (λ z. omega arith))
          ∙ unmoved (λ c. c.dictionaries) with_dictionaries i (dictionary_at m (room_in b * i) (min n (room_in b))) (omega arith) refl

  -- the texts
  pub from_stored : (k x : ℕ) → card_of (put_from b k x) l ≡ with_from (card_of b l) k x
  unfolding standing
  from_stored k x =
      number_put (λ c. c.from) (λ c xs. with_texts c c.programs xs c.earlier c.later) refl k x 920 8 (λ w. w) x refl (omega arith) (λ c. refl)
      (λ c o e. standing_only 920 928 b c l o e)

  pub opening_stored : (k : ℕ) (y : Program) → FitsProgram y → card_of (put_opening b k y) l ≡ with_opening (card_of b l) k y
  unfolding standing table
  opening_stored k y p =
      row_put (λ c. c.programs) (λ c xs. with_texts c xs c.from c.earlier c.later) refl k y 656 8 program_of (program_words y) (λ h. program_back y p)
      (omega arith) (λ c. refl) (λ c o e. standing_only 656 920 b c l o e)

  -- words of an earlier text, as they come from a program or from the later text
  earlier_put : (k : ℕ) (words : List ℕ) (y : Program) → length words ≡ 33 → (k < 8 → program_of words ≡ y) →
      card_of (put_row b 928 33 8 k words) l ≡ with_earlier (card_of b l) k y
  unfolding standing
  earlier_put k words y size back =
      rw (sym size)
      (row_put (λ c. c.earlier) (λ c xs. with_texts c c.programs c.from xs c.later) refl k y 928 8 program_of words back (omega arith)
      (λ c. rw size) (λ c o e. standing_only 928 1192 b c l (rw size at o) e))

  pub earlier_stored : (k : ℕ) (y : Program) → FitsProgram y → card_of (put_earlier b k y) l ≡ with_earlier (card_of b l) k y
  unfolding table
  earlier_stored k y p = earlier_put k (program_words y) y refl (λ h. program_back y p)

  pub later_stored : (k : ℕ) (y : Program) → FitsProgram y → card_of (put_later b k y) l ≡ with_later (card_of b l) k y
  unfolding standing table
  later_stored k y p =
      row_put (λ c. c.later) (λ c xs. with_texts c c.programs c.from c.earlier xs) refl k y 1192 8 program_of (program_words y) (λ h. program_back y p)
      (omega arith) (λ c. refl) (λ c o e. standing_only 1192 1456 b c l o e)

  pub later_kept : (k : ℕ) → card_of (keep_later b k) l ≡ with_earlier (card_of b l) k (get_or (card_of b l).later k no_program)
  later_kept k =
      earlier_put k (part b (1192 + 33 * k) 33) (get_or (card_of b l).later k no_program) refl
      (λ h. row_of b 1192 33 8 k program_of no_program long h ∙ later_text_is b l k)

-- a change of program k: its later text becomes the earlier one, and y the later one
pub revision_stored :
    (b l : List ℕ) → 1456 ≤ length b → (k from : ℕ) (y : Program) → FitsProgram y →
    card_of (put_later (put_from (keep_later b k) k from) k y) l ≡ with_revision (card_of b l) k from y
revision_stored b l long k from y p =
    let kept = put_row_length b 928 8 k 33 (part b (1192 + 33 * k) 33) in
    let numbered = put_number_length (keep_later b k) 920 8 k from in
    later_stored (put_from (keep_later b k) k from) l (omega arith) k y p
    ∙ ap (λ (c : Card). with_later c k y) (from_stored (keep_later b k) l (omega arith) k from)
    ∙ ap (λ (c : Card). with_later (with_from c k from) k y) (later_kept b l long k)
