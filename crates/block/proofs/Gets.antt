-- What is taken out of a block is that part of the card that it holds, for every block, however short, and every number: one law for parts of several
-- words and one for parts of one word, cited by each part.
use Prim.Native.Nat.{ℕ, ◌+◌, ◌*◌, ◌<◌, ◌≤◌, min}
use mathlib.Core.Path.{◌≡◌, refl, sym, ◌∙◌, ap}
use mathlib.Core.Bool.{Bool, true, false, cond, ◌&&◌}
use mathlib.Core.List.{List, [], ◌∷◌}
use native.Mathlib.Omega.{arith}
use lib.Dec.{leb, ltb}
use lib.ListN.{length, get_or, replicate}
use borrow.Author.Tests.{ltb-true, le-leb, lt-leb}
use Rattle.construction.specs.Cells.{open_gate, open_announcement, open_record}
use Rattle.construction.specs.Instructions.{started, no_program}
use Rattle.construction.specs.Dictionary.{empty}
use Rattle.construction.specs.Opening.{fresh, no_contents}
use Rattle.construction.specs.Parts as construction
use Rattle.construction.specs.Parts.{idle_control, no_operation, no_gate, announcement_at, record_at, local_at, texts_of}
use Rattle.construction.proofs.Basics.{get_or_replicate_same}
use Rattle.codes.specs.Types.{Card}
use Rattle.codes.specs.Parts.{word_at, part, table, rows}
use Rattle.codes.specs.Codes.{byte, half, odd, gate_of, control_of, announcement_of, record_of, operation_of, simulation_of, program_of}
use Rattle.codes.proofs.Blocks.{get_or_table, table_or}
use Rattle.block.specs.Layout.{is_room, row_at, number_at, process_count_in, variable_count_in, program_count_in, limit_in, steps_in, room_in, gate_in}
use Rattle.block.specs.Layout.{announcement_in, record_in, control_in, operation_in, exit_in, count_in, last_gate_in, last_in, simulation_in, mask_in, start_in}
use Rattle.block.specs.Layout.{opening_text, from_in, earlier_text, later_text}
use Rattle.block.specs.Cards.{dictionary_at, dictionary_in, text_in, numbers, standing, card_of}

pub empty_at : (l : List ℕ) (base : ℕ) → dictionary_at l base 0 ≡ empty
unfolding dictionary_at table
empty_at l base = refl

module _ (b l : List ℕ) where
  pub long_card : 1456 ≤ length b → card_of b l ≡ standing b l
  unfolding card_of
  long_card h = rw (le-leb 1456 (length b) h)

  pub short_card : length b < 1456 → card_of b l ≡ fresh no_contents
  unfolding card_of
  short_card h = rw (lt-leb 1456 (length b) h)

  module _ {A : Type 0} (view : Card → List A) where
    row_is :
        (base size n : ℕ) (decode : List ℕ → A) (none : A) → view (standing b l) ≡ rows b base size n decode → view (fresh no_contents) ≡ replicate n none →
        (i : ℕ) → row_at b base size n decode none i ≡ get_or (view (card_of b l)) i none
    unfolding row_at is_room card_of
    row_is base size n decode none e f i = go (leb 1456 (length b))
      where
        go : (t : Bool) → cond (t && ltb i n) (decode (part b (base + size * i) size)) none ≡ get_or (view (cond t (standing b l) (fresh no_contents))) i none
        go true = sym (ap (λ (xs : List A). get_or xs i none) e ∙ table_or n i (λ k. decode (part b (base + size * k) size)) none)
        go false = sym (ap (λ (xs : List A). get_or xs i none) f ∙ get_or_replicate_same n i none)

    number_is :
        (base n : ℕ) (decode : ℕ → A) → view (standing b l) ≡ numbers b base n decode → view (fresh no_contents) ≡ replicate n (decode 0) →
        (i : ℕ) → decode (number_at b base n i) ≡ get_or (view (card_of b l)) i (decode 0)
    unfolding number_at is_room card_of
    number_is base n decode e f i = go (leb 1456 (length b))
      where
        inner : (t : Bool) → decode (cond t (word_at b (base + i)) 0) ≡ cond t (decode (word_at b (base + i))) (decode 0)
        inner true = refl
        inner false = refl

        go : (t : Bool) → decode (cond (t && ltb i n) (word_at b (base + i)) 0) ≡ get_or (view (cond t (standing b l) (fresh no_contents))) i (decode 0)
        go true = inner (ltb i n) ∙ sym (ap (λ (xs : List A). get_or xs i (decode 0)) e ∙ table_or n i (λ k. decode (word_at b (base + k))) (decode 0))
        go false = sym (ap (λ (xs : List A). get_or xs i (decode 0)) f ∙ get_or_replicate_same n i (decode 0))

  -- the counts of the card
  pub process_count_is : process_count_in b ≡ (card_of b l).process_count
  unfolding standing fresh table
  process_count_is = number_is (λ c. c.process_count ∷ []) 0 1 byte refl refl 0

  pub variable_count_is : variable_count_in b ≡ (card_of b l).variable_count
  unfolding standing fresh table
  variable_count_is = number_is (λ c. c.variable_count ∷ []) 1 1 byte refl refl 0

  pub program_count_is : program_count_in b ≡ (card_of b l).program_count
  unfolding standing fresh table
  program_count_is = number_is (λ c. c.program_count ∷ []) 2 1 byte refl refl 0

  pub limit_is : limit_in b ≡ (card_of b l).limit
  unfolding standing fresh table
  limit_is = number_is (λ c. c.limit ∷ []) 3 1 (λ w. w) refl refl 0

  pub steps_is : steps_in b ≡ (card_of b l).steps
  unfolding standing fresh table
  steps_is = number_is (λ c. c.steps ∷ []) 4 1 (λ w. w) refl refl 0

  -- the shared cells
  pub gate_is : gate_in b ≡ (card_of b l).gate
  unfolding standing fresh table
  gate_is = row_is (λ c. c.gate ∷ []) 5 2 1 gate_of open_gate refl refl 0

  pub announcement_is : (m : ℕ) → announcement_in b m ≡ announcement_at (card_of b l) m
  unfolding standing fresh
  announcement_is = row_is (λ c. c.announcements) 8 9 8 announcement_of open_announcement refl refl

  pub record_is : (v : ℕ) → record_in b v ≡ record_at (card_of b l) v
  unfolding standing fresh
  record_is = row_is (λ c. c.records) 80 4 64 record_of (open_record 0) refl refl

  -- what a process keeps
  pub control_is : (i : ℕ) → control_in b i ≡ (local_at (card_of b l) i).control
  unfolding standing fresh
  control_is = row_is (λ c. c.controls) 336 2 8 control_of idle_control refl refl

  pub operation_is : (i : ℕ) → operation_in b i ≡ (local_at (card_of b l) i).operation
  unfolding standing fresh
  operation_is = row_is (λ c. c.operations) 352 5 8 operation_of no_operation refl refl

  pub exit_is : (i : ℕ) → exit_in b i ≡ (local_at (card_of b l) i).exit
  unfolding standing fresh
  exit_is = number_is (λ c. c.exits) 392 8 odd refl refl

  pub count_is : (i : ℕ) → count_in b i ≡ (local_at (card_of b l) i).steps
  unfolding standing fresh
  count_is = number_is (λ c. c.counts) 400 8 (λ w. w) refl refl

  pub last_gate_is : (i : ℕ) → last_gate_in b i ≡ (local_at (card_of b l) i).gate
  unfolding standing fresh
  last_gate_is = row_is (λ c. c.gates_read) 408 2 8 gate_of no_gate refl refl

  pub last_is : (i : ℕ) → last_in b i ≡ (local_at (card_of b l) i).announcement
  unfolding standing fresh
  last_is = row_is (λ c. c.announcements_read) 424 9 8 announcement_of open_announcement refl refl

  pub simulation_is : (i : ℕ) → simulation_in b i ≡ (local_at (card_of b l) i).simulation
  unfolding standing fresh
  simulation_is = row_is (λ c. c.simulations) 496 10 8 simulation_of started refl refl

  pub mask_is : (i : ℕ) → mask_in b i ≡ (local_at (card_of b l) i).mask
  unfolding standing fresh
  mask_is = number_is (λ c. c.masks) 584 8 (λ w. w) refl refl

  -- the texts
  pub start_is : (v : ℕ) → start_in b v ≡ get_or (card_of b l).starts v 0
  unfolding standing fresh
  start_is = number_is (λ c. c.starts) 592 64 half refl refl

  pub opening_text_is : (k : ℕ) → opening_text b k ≡ get_or (card_of b l).programs k no_program
  unfolding standing fresh
  opening_text_is = row_is (λ c. c.programs) 656 33 8 program_of no_program refl refl

  pub from_is : (k : ℕ) → from_in b k ≡ get_or (card_of b l).from k 0
  unfolding standing fresh
  from_is = number_is (λ c. c.from) 920 8 (λ w. w) refl refl

  pub earlier_text_is : (k : ℕ) → earlier_text b k ≡ get_or (card_of b l).earlier k no_program
  unfolding standing fresh
  earlier_text_is = row_is (λ c. c.earlier) 928 33 8 program_of no_program refl refl

  pub later_text_is : (k : ℕ) → later_text b k ≡ get_or (card_of b l).later k no_program
  unfolding standing fresh
  later_text_is = row_is (λ c. c.later) 1192 33 8 program_of no_program refl refl

  pub text_is : (k number : ℕ) → text_in b k number ≡ construction.program_of (texts_of (card_of b l)) k number
  unfolding construction.program_of
  text_is k number =
      let from = from_is k in
      let earlier = earlier_text_is k in
      let later = later_text_is k in
      λ j. cond (ltb number (from j)) (earlier j) (later j)

  -- the dictionaries: a short block has none, and none stands past the last process
  unnoted : (i : ℕ) → is_room b i 8 ≡ false → dictionary_in b l i ≡ empty
  unfolding number_at
  unnoted i e =
      let z : min (byte (cond (is_room b i 8) (word_at b (576 + i)) 0)) (room_in b) ≡ 0 = rw e (omega arith) in
      ap (λ (n : ℕ). dictionary_at l (room_in b * i) n) z ∙ empty_at l (room_in b * i)

  pub dictionary_is : (i : ℕ) → dictionary_in b l i ≡ (local_at (card_of b l) i).dictionary
  unfolding is_room card_of standing fresh
  dictionary_is i = go (leb 1456 (length b)) (ltb i 8) refl refl (unnoted i)
    where
      go : (s t : Bool) → leb 1456 (length b) ≡ s → ltb i 8 ≡ t → (leb 1456 (length b) && ltb i 8 ≡ false → dictionary_in b l i ≡ empty) →
          dictionary_in b l i ≡ get_or (cond (leb 1456 (length b)) (standing b l) (fresh no_contents)).dictionaries i empty
      go true true e f h = rw e (sym (get_or_table 8 i (λ k. dictionary_in b l k) empty (ltb-true i 8 f)))
      go true false e f h = h (rw (e, f)) ∙ sym (rw e (table_or 8 i (λ k. dictionary_in b l k) empty ∙ rw f))
      go false t e f h = h (rw e) ∙ sym (rw e (get_or_replicate_same 8 i empty))
