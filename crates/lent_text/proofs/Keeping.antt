-- Words that no part of a text's card is put into keep what they have: word 7, which is w, once it was put, and the words past the card. A put keeps
-- the length of the block, and does nothing to one that is too short.
use Prim.Native.Nat.{ℕ, zero, suc, ◌+◌, ◌*◌, ◌<◌, ◌≤◌}
use mathlib.Core.Path.{◌≡◌, refl, ◌∙◌}
use mathlib.Core.Logic.{◌⊎◌, inl, inr, ⊎_elim}
use mathlib.Core.Bool.{Bool, true, false, cond}
use mathlib.Core.List.{List}
use native.Mathlib.Omega.{arith}
use lib.ListN.{length, get_or, set}
use lib.Seq.{get_or-set_other}
use Rattle.construction.specs.declared.{texts.Contents.Contents, programs.Program.Program}
use Rattle.construction.specs.Cells.{open_gate, open_record}
use Rattle.construction.specs.Instructions.{no_program}
use Rattle.construction.specs.Weight.{card_weight}
use Rattle.codes.specs.Parts.{word_at, stores, table}
use Rattle.codes.specs.Codes.{gate_words, record_words, program_words}
use Rattle.codes.proofs.Blocks.{kept, inside}
use Rattle.block.specs.Layout.{is_room, put_row, put_number, put_room, put_process_count, put_variable_count, put_program_count, put_limit, put_start, put_opening}
use Rattle.block.specs.Layout.{put_earlier}
use Rattle.block.proofs.Rooms.{room_here}
use Rattle.block.proofs.Puts.{put_row_length, put_number_length, put_row_short, put_number_short}
use Rattle.lent_text.specs.Opened.{cleared, put_head, put_value, put_values, put_texts, put_programs, contents_block}
use Rattle.lent_text.proofs.Clearing.{cleared_short}

-- a block of the same length with the same word there
pub record Same (q : ℕ) (b c : List ℕ) : Type 0 where
  pub size : length c ≡ length b
  pub word : word_at c q ≡ word_at b q

same : (q : ℕ) (b : List ℕ) → Same q b b
same q b = record { size = refl; word = refl }

after : {q : ℕ} {b c d : List ℕ} → Same q c d → Same q b c → Same q b d
after s r = record { size = s.size ∙ r.size; word = s.word ∙ r.word }

module _ (q : ℕ) (b : List ℕ) (base n i : ℕ) where
  number_same : (x : ℕ) → (q < base) ⊎ (base + n ≤ q) → Same q b (put_number b base n i x)
  unfolding put_number
  number_same x h = record { size = put_number_length b base n i x; word = go (is_room b i n) refl }
    where
      go : (t : Bool) → is_room b i n ≡ t → word_at (cond t (set b (base + i) x) b) q ≡ word_at b q
      go true e =
          let r = room_here b i n e in
          get_or-set_other b (base + i) q x 0 (λ z. ⊎_elim (λ (p : q < base). omega arith) (λ (p : base + n ≤ q). omega (arith, r.1)) h)
      go false e = refl

  row_same : (size : ℕ) (words : List ℕ) → length words ≡ size → (q < base) ⊎ (base + size * n ≤ q) → Same q b (put_row b base size n i words)
  unfolding put_row
  row_same size words w h = record { size = put_row_length b base n i size words; word = go (is_room b i n) refl }
    where
      go : (t : Bool) → is_room b i n ≡ t → word_at (cond t (stores b (base + size * i) words) b) q ≡ word_at b q
      go true e =
          let r = inside base size n i (room_here b i n e).1 in
          kept b (base + size * i) words q (⊎_elim (λ (p : q < base). inl (omega arith)) (λ (p : base + size * n ≤ q). inr (omega arith)) h)
      go false e = refl

-- w itself is word 7
pub room_past : (b : List ℕ) (x q : ℕ) → 1456 ≤ q → word_at (put_room b x) q ≡ word_at b q
room_past b x q p = (number_same q b 7 1 0 x (inr (omega arith))).word

program_size : (y : Program) → length (program_words y) ≡ 33
unfolding table
program_size y = refl

-- word 7, or a word past the card
module _ (q : ℕ) (free : (q ≡ 7) ⊎ (1456 ≤ q)) where
  below : (base top : ℕ) → top ≤ 7 → (q < base) ⊎ (top ≤ q)
  below base top h = inr (⊎_elim (λ (e : q ≡ 7). omega arith) (λ (p : 1456 ≤ q). omega arith) free)

  above : (base top : ℕ) → 7 < base → top ≤ 1456 → (q < base) ⊎ (top ≤ q)
  above base top h k = ⊎_elim (λ (e : q ≡ 7). inl (omega arith)) (λ (p : 1456 ≤ q). inr (omega arith)) free

  pub head_same : (b : List ℕ) (x : Contents) → Same q (put_room b (card_weight x)) (put_head b x)
  unfolding put_head
  head_same b x =
      let b0 = put_room b (card_weight x) in
      let b1 = put_process_count b0 x.process_count in
      let b2 = put_variable_count b1 x.variable_count in
      let b3 = put_program_count b2 x.program_count in
      let b4 = put_limit b3 x.limit in
      after (row_same q b4 5 1 0 2 (gate_words open_gate) refl (below 5 7 (omega arith)))
      (after (number_same q b3 3 1 0 x.limit (below 3 4 (omega arith)))
      (after (number_same q b2 2 1 0 x.program_count (below 2 3 (omega arith)))
      (after (number_same q b1 1 1 0 x.variable_count (below 1 2 (omega arith)))
      (number_same q b0 0 1 0 x.process_count (below 0 1 (omega arith))))))

  value_same : (b : List ℕ) (v x : ℕ) → Same q b (put_value b v x)
  value_same b v x =
      after (row_same q (put_start b v x) 80 64 v 4 (record_words (open_record x)) refl (above 80 336 (omega arith) (omega arith)))
      (number_same q b 592 64 v x (above 592 656 (omega arith) (omega arith)))

  pub values_same : (n : ℕ) (b xs : List ℕ) → Same q b (put_values n b xs)
  unfolding put_values
  values_same zero b xs = same q b
  values_same (suc n) b xs = after (value_same (put_values n b xs) n (get_or xs n 0)) (values_same n b xs)

  texts_same : (b : List ℕ) (k : ℕ) (y : Program) → Same q b (put_texts b k y)
  texts_same b k y =
      let c = put_opening b k y in
      let d = put_earlier c k y in
      after (row_same q d 1192 8 k 33 (program_words y) (program_size y) (above 1192 1456 (omega arith) (omega arith)))
      (after (row_same q c 928 8 k 33 (program_words y) (program_size y) (above 928 1192 (omega arith) (omega arith)))
      (row_same q b 656 8 k 33 (program_words y) (program_size y) (above 656 920 (omega arith) (omega arith))))

  pub programs_same : (n : ℕ) (b : List ℕ) (xs : List Program) → Same q b (put_programs n b xs)
  unfolding put_programs
  programs_same zero b xs = same q b
  programs_same (suc n) b xs = after (texts_same (put_programs n b xs) n (get_or xs n no_program)) (programs_same n b xs)

  -- all that is put after w
  pub contents_same : (b : List ℕ) (x : Contents) → Same q (put_room (cleared b) (card_weight x)) (contents_block b x)
  unfolding contents_block
  contents_same b x =
      after (programs_same 8 (put_values 64 (put_head (cleared b) x) x.starts) x.programs)
      (after (values_same 64 (put_head (cleared b) x) x.starts) (head_same (cleared b) x))

-- a block that is too short
module _ (b : List ℕ) (short : length b < 1456) where
  head_short : (x : Contents) → put_head b x ≡ b
  unfolding put_head
  head_short x =
      rw (
        put_number_short b 7 1 0 (card_weight x) short,
        put_number_short b 0 1 0 x.process_count short,
        put_number_short b 1 1 0 x.variable_count short,
        put_number_short b 2 1 0 x.program_count short,
        put_number_short b 3 1 0 x.limit short,
        put_row_short b 5 1 0 2 (gate_words open_gate) short,
      )

  values_short : (n : ℕ) (xs : List ℕ) → put_values n b xs ≡ b
  unfolding put_values
  values_short zero xs = refl
  values_short (suc n) xs =
      rw (values_short n xs, put_number_short b 592 64 n (get_or xs n 0) short, put_row_short b 80 64 n 4 (record_words (open_record (get_or xs n 0))) short)

  programs_short : (n : ℕ) (xs : List Program) → put_programs n b xs ≡ b
  unfolding put_programs
  programs_short zero xs = refl
  programs_short (suc n) xs =
      let y = get_or xs n no_program in
      rw (
        programs_short n xs,
        put_row_short b 656 8 n 33 (program_words y) short,
        put_row_short b 928 8 n 33 (program_words y) short,
        put_row_short b 1192 8 n 33 (program_words y) short,
      )

  pub contents_short : (x : Contents) → contents_block b x ≡ b
  unfolding contents_block
  contents_short x = rw (cleared_short b short, head_short x, values_short 64 x.starts, programs_short 8 x.programs)
