-- A text opened into a block of words is the card that it opens to (document 02, order 10)
use Prim.Native.Nat.{ℕ, ◌<◌, ◌≤◌, min}
use mathlib.Core.Path.{◌≡◌, refl, ◌∙◌, ap}
use mathlib.Core.Bool.{Bool, true, false, cond}
use mathlib.Core.Logic.{inl, inr}
use mathlib.Core.List.{List}
use native.Mathlib.Omega.{arith}
use lib.Dec.{ltb}
use lib.ListN.{length, get_or, replicate}
use Rattle.construction.specs.declared.{texts.Contents.Contents, programs.Program.Program}
use Rattle.construction.specs.Instructions.{no_program}
use Rattle.construction.specs.Opening.{fresh, read_card, opened}
use Rattle.construction.specs.Parts as construction
use Rattle.construction.specs.Parts.{texts_of}
use Rattle.construction.specs.Weight.{weight, card_weight}
use Rattle.construction.proofs.Simulating.Weights.{weight_card}
use Rattle.construction.proofs.Text.Bounds.{opened_bounded}
use Rattle.codes.specs.Types.{Card}
use Rattle.codes.specs.Parts.{word_at}
use Rattle.block.specs.Layout.{room_in}
use Rattle.block.specs.Cards.{card_of, text_in}
use Rattle.block.proofs.Gets.{text_is}
use Rattle.block.proofs.Puts as puts
use Rattle.lent_text.specs.Opened.{cleared, opened_block}
use Rattle.lent_text.proofs.Fitting.{opened_fits}
use Rattle.lent_text.proofs.Clearing.{cleared_past, cleared_length}
use Rattle.lent_text.proofs.Keeping.{contents_same, contents_short, room_past}
use Rattle.lent_text.proofs.Defining.{contents_defined}
use Rattle.lent_text.proofs.Opening.{contents_stored, contents_room}

-- at opening the earlier and the later text of a program are the same
same_texts_lem : (x : Contents) (k number : ℕ) → construction.program_of (texts_of (fresh x)) k number ≡ get_or x.programs k no_program
unfolding fresh construction.program_of
same_texts_lem x k number = either (ltb number (get_or (replicate {A = ℕ} 8 0) k 0)) (get_or x.programs k no_program)
  where
    either : (s : Bool) (y : Program) → cond s y y ≡ y
    either true y = refl
    either false y = refl

-- a block that is too short is left as it was
pub opened_short : (t b : List ℕ) → length b < 1456 → opened_block t b ≡ b
unfolding opened_block
opened_short t b short = contents_short b short (read_card t).contents

-- every word of the card is defined by the text
pub opened_defined : (t b c : List ℕ) → 1456 ≤ length b → 1456 ≤ length c → (q : ℕ) → q < 1456 → word_at (opened_block t b) q ≡ word_at (opened_block t c) q
unfolding opened_block
opened_defined t b c h k = contents_defined b c h k (read_card t).contents

module _ (t b : List ℕ) (long : 1456 ≤ length b) where
  -- the card of the text, for every text and every loan: that of a refused text is the empty card
  pub opened_card : (l : List ℕ) → card_of (opened_block t b) l ≡ (opened t).card
  unfolding opened_block opened
  opened_card l = contents_stored l b long (read_card t).contents (opened_fits t) (opened_bounded t).starts (opened_bounded t).programs

  -- w, the room of each dictionary, is the card's weight
  pub opened_room : room_in (opened_block t b) ≡ min 32 (card_weight (read_card t).contents)
  unfolding opened_block
  opened_room =
      let e = contents_room b b long (read_card t).contents in
      omega arith

  -- every text that an operation of the card runs weighs at most w
  pub opened_light : (k number : ℕ) → weight (text_in (opened_block t b) k number) ≤ room_in (opened_block t b)
  unfolding opened
  opened_light k number =
      let x = (read_card t).contents in
      let e : text_in (opened_block t b) k number ≡ get_or x.programs k no_program =
      text_is (opened_block t b) b k number ∙ ap (λ (c : Card). construction.program_of (texts_of c) k number) (opened_card b) ∙ same_texts_lem x k number in
      let p = (opened_bounded t).weights k in
      let q = weight_card x k in
      let r = opened_room in
      let w = ap weight e in
      omega arith

  -- the words past the card are kept, and so is the length
  pub opened_past : (q : ℕ) → 1456 ≤ q → word_at (opened_block t b) q ≡ word_at b q
  unfolding opened_block
  opened_past q p =
      let x = (read_card t).contents in
      (contents_same q (inr p) b x).word ∙ room_past (cleared b) (card_weight x) q p ∙ cleared_past b long q p

  pub opened_length : length (opened_block t b) ≡ length b
  unfolding opened_block
  opened_length =
      let x = (read_card t).contents in
      (contents_same 7 (inl refl) b x).size ∙ puts.put_number_length (cleared b) 7 1 0 (card_weight x) ∙ cleared_length b long
