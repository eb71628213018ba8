-- A block whose words are 0: word by word, and the card that it holds
use Prim.Native.Nat.{ℕ, ◌+◌, ◌-◌, ◌*◌, ◌<◌, ◌≤◌}
use mathlib.Core.Path.{◌≡◌, refl, ◌∙◌, ap}
use mathlib.Core.Bool.{Bool, true, false, cond}
use mathlib.Core.List.{List, [], ◌++◌}
use native.Mathlib.Omega.{arith}
use lib.ListN.{length, get_or, take, drop, replicate, length-append, length-drop, length-replicate, get_or-replicate, get_or-append}
use lib.Seq.{get_or-append-add, get_or-drop, length-take-le}
use borrow.Author.Tests.{le-leb, lt-leb}
use Rattle.construction.specs.Dictionary.{empty}
use Rattle.construction.specs.Opening.{fresh, no_contents}
use Rattle.construction.specs.Parts.{no_gate, with_gate}
use Rattle.codes.specs.Parts.{word_at, table, rows}
use Rattle.codes.specs.Codes.{byte, half, odd, holder_from, flag_from, place_from, instruction_from, gate_of, control_of, announcement_of, record_of, operation_of}
use Rattle.codes.specs.Codes.{simulation_of, program_of}
use Rattle.codes.proofs.Blocks.{part_same, table_same, rows_same}
use Rattle.block.specs.Layout.{is_room, number_at, room_in, noted_in}
use Rattle.block.specs.Cards.{dictionary_at, dictionary_in, numbers, standing, card_of}
use Rattle.block.proofs.Gets.{empty_at, long_card}
use Rattle.lent_text.specs.Opened.{zeroed, cleared}

-- word by word
abbrev zeros : ℕ → List ℕ
zeros n = replicate n 0

module _ (b : List ℕ) where
  pub filled_front : (z : List ℕ) → 1456 ≤ length b → z ≡ replicate (length (take 1456 b)) 0 → z ++ drop 1456 b ≡ cleared b
  unfolding cleared zeroed
  filled_front z p e =
      let n : length (take 1456 b) ≡ 1456 = length-take-le 1456 b p in
      rw (le-leb 1456 (length b) p, e, n)

  pub cleared_long : 1456 ≤ length b → cleared b ≡ zeroed 1456 b
  unfolding cleared
  cleared_long p = rw (le-leb 1456 (length b) p)

  pub cleared_short : length b < 1456 → cleared b ≡ b
  unfolding cleared
  cleared_short p = rw (lt-leb 1456 (length b) p)

  module _ (n : ℕ) where
    zero_at : (q : ℕ) → q < n → word_at (zeroed n b) q ≡ 0
    unfolding zeroed
    zero_at q p =
        let e : length (zeros n) ≡ n = length-replicate n 0 in
        get_or-append (zeros n) (drop n b) 0 q (omega arith) ∙ get_or-replicate n q 0 0 p

    past_at : (q : ℕ) → n ≤ q → word_at (zeroed n b) q ≡ word_at b q
    unfolding zeroed
    past_at q p =
        let e : length (zeros n) ≡ n = length-replicate n 0 in
        let f : q ≡ length (zeros n) + (q - n) = omega arith in
        let g : n + (q - n) ≡ q = omega arith in
        ap (λ (k : ℕ). get_or (zeros n ++ drop n b) k 0) f ∙ get_or-append-add (zeros n) (drop n b) (q - n) 0 ∙ get_or-drop n b (q - n) 0 ∙ ap (λ (k : ℕ). get_or b k 0)
        g

    zeroed_length : n ≤ length b → length (zeroed n b) ≡ length b
    unfolding zeroed
    zeroed_length p = simp (length-append, length-replicate, length-drop) (omega arith)

  module _ (long : 1456 ≤ length b) where
    pub cleared_word : (q : ℕ) → q < 1456 → word_at (cleared b) q ≡ 0
    cleared_word q p = ap (λ (c : List ℕ). word_at c q) (cleared_long long) ∙ zero_at 1456 q p

    pub cleared_past : (q : ℕ) → 1456 ≤ q → word_at (cleared b) q ≡ word_at b q
    cleared_past q p = ap (λ (c : List ℕ). word_at c q) (cleared_long long) ∙ past_at 1456 q p

    pub cleared_length : length (cleared b) ≡ length b
    cleared_length = ap length (cleared_long long) ∙ zeroed_length 1456 long

-- the card of words that are 0: every part is as at opening, but for the gate
module _ (c l : List ℕ) (none : (q : ℕ) → q < 1456 → word_at c q ≡ 0) where
  many : {A : Type 0} (base size n : ℕ) (decode : List ℕ → A) → base + size * n ≤ 1456 → rows c base size n decode ≡ rows [] base size n decode
  many base size n decode h = rows_same [] c base size n decode (λ q r s. none q (omega arith))

  each : {A : Type 0} (base n : ℕ) (decode : ℕ → A) → base + n ≤ 1456 → numbers c base n decode ≡ numbers [] base n decode
  each base n decode h =
      table_same n (λ i. decode (word_at [] (base + i))) (λ i. decode (word_at c (base + i))) (λ i p. ap decode (none (base + i) (omega arith)))

  pub no_number : (base n i : ℕ) → base + n ≤ 1456 → i < n → number_at c base n i ≡ 0
  unfolding number_at
  no_number base n i h p = go (is_room c i n)
    where
      go : (t : Bool) → cond t (word_at c (base + i)) 0 ≡ 0
      go true = none (base + i) (omega arith)
      go false = refl

  no_items : (i : ℕ) → i < 8 → dictionary_in c l i ≡ empty
  no_items i p =
      let e = no_number 576 8 i (omega arith) p in
      let z : noted_in c i ≡ 0 = rw e (omega arith) in
      ap (λ (n : ℕ). dictionary_at l (room_in c * i) n) z ∙ empty_at l (room_in c * i)

  zero_card : standing c l ≡ with_gate (fresh no_contents) no_gate
  unfolding standing fresh table holder_from flag_from place_from instruction_from
  zero_card =
      let process_count = ap byte (none 0 (omega arith)) in
      let variable_count = ap byte (none 1 (omega arith)) in
      let program_count = ap byte (none 2 (omega arith)) in
      let limit = none 3 (omega arith) in
      let steps = none 4 (omega arith) in
      let starts = each 592 64 half (omega arith) in
      let programs = many 656 33 8 program_of (omega arith) in
      let from = each 920 8 (λ (w : ℕ). w) (omega arith) in
      let earlier = many 928 33 8 program_of (omega arith) in
      let later = many 1192 33 8 program_of (omega arith) in
      let gate = ap gate_of (part_same [] c 5 2 (λ q r s. none q (omega arith))) in
      let announcements = many 8 9 8 announcement_of (omega arith) in
      let records = many 80 4 64 record_of (omega arith) in
      let controls = many 336 2 8 control_of (omega arith) in
      let operations = many 352 5 8 operation_of (omega arith) in
      let exits = each 392 8 odd (omega arith) in
      let counts = each 400 8 (λ (w : ℕ). w) (omega arith) in
      let gates_read = many 408 2 8 gate_of (omega arith) in
      let announcements_read = many 424 9 8 announcement_of (omega arith) in
      let simulations = many 496 10 8 simulation_of (omega arith) in
      let dictionaries = table_same 8 (λ i. empty) (λ i. dictionary_in c l i) no_items in
      let masks = each 584 8 (λ (w : ℕ). w) (omega arith) in
      λ j. record {
        process_count = process_count j;
        variable_count = variable_count j;
        program_count = program_count j;
        limit = limit j;
        starts = starts j;
        programs = programs j;
        from = from j;
        earlier = earlier j;
        later = later j;
        gate = gate j;
        announcements = announcements j;
        records = records j;
        steps = steps j;
        controls = controls j;
        operations = operations j;
        exits = exits j;
        counts = counts j;
        gates_read = gates_read j;
        announcements_read = announcements_read j;
        simulations = simulations j;
        dictionaries = dictionaries j;
        masks = masks j;
      }

pub cleared_card : (b l : List ℕ) → 1456 ≤ length b → card_of (cleared b) l ≡ with_gate (fresh no_contents) no_gate
cleared_card b l long =
    let e = cleared_length b long in
    long_card (cleared b) l (omega arith) ∙ zero_card (cleared b) l (cleared_word b long)
