-- w of the block stays that of the opening text: no call, exit request or change alters it, or the text that the card was opened with.
use Rattle.std.specs.Prelude.{Ok, Err}
use Prim.Native.Nat.{ℕ, ◌+◌, ◌*◌, ◌≤◌, min}
use mathlib.Core.Path.{◌≡◌, refl, sym, ◌∙◌, ap}
use mathlib.Core.Logic.{inl}
use mathlib.Core.Bool.{Bool, true, false, cond, not}
use mathlib.Core.List.{List}
use native.Mathlib.Omega.{arith}
use lib.Dec.{ltb}
use lib.ListN.{length}
use Rattle.construction.specs.declared.{answers.Answered.Answered, texts.Contents.Contents}
use Rattle.construction.specs.Weight.{card_weight}
use Rattle.construction.specs.Parts.{contents_of}
use Rattle.construction.specs.Answers.{is_refused}
use Rattle.construction.specs.Requests.{is_process, is_program, is_busy, call, request_exit}
use Rattle.construction.specs.Changes.{change_read, is_unsettled, if_read, change}
use Rattle.construction.proofs.Basics.{on_test}
use Rattle.codes.specs.Types.{Words, Control, Operation, Card, P1}
use Rattle.codes.specs.Parts.{part, table}
use Rattle.codes.specs.Codes.{bit, control_words, operation_words, program_words}
use Rattle.construction.specs.Cells.{FitsWords}
use Rattle.construction.specs.Types.{Verdict}
use Rattle.block.specs.Layout.{put_row, put_number, room_in, put_control, put_operation, put_exit, put_from, keep_later}
use Rattle.block.specs.Cards.{card_of}
use Rattle.block.proofs.Standing.{number_same}
use Rattle.block.proofs.Puts.{put_row_length, put_number_length}
use Rattle.lent_machine.proofs.Keeping.{only_row, only_number}
use Rattle.lent_card.specs.Requests.{call_answer, put_call, call_block, exit_answer, exit_block, change_text, change_answer, put_change, change_block, RoomKept}
use Rattle.lent_card.proofs.Cards.{call_is, exit_is, change_is}

-- a part past the room of the dictionaries
module _ (b : List ℕ) (base n i : ℕ) (past : 8 ≤ base) where
  room_row : (words : List ℕ) → room_in (put_row b base (length words) n i words) ≡ room_in b
  room_row words =
      let c = put_row b base (length words) n i words in
      let only = only_row b 8 (base + length words * n) base n i past words (omega arith) in
      ap (λ (k : ℕ). min k 32) (number_same b c 7 1 0 (put_row_length b base n i (length words) words) (only.at 7 (inl (omega arith))))

  room_number : (x : ℕ) → room_in (put_number b base n i x) ≡ room_in b
  room_number x =
      let c = put_number b base n i x in
      let only = only_number b 8 (base + n) base n i past x (omega arith) in
      ap (λ (k : ℕ). min k 32) (number_same b c 7 1 0 (put_number_length b base n i x) (only.at 7 (inl (omega arith))))

unless : (t : Bool) (b after : List ℕ) → room_in after ≡ room_in b → room_in (cond t b after) ≡ room_in b
unless true b after e = refl
unless false b after e = e

module _ (b : List ℕ) where
  call_room : (i k : ℕ) (inputs : Words) → room_in (call_block b i k inputs) ≡ room_in b
  unfolding call_block
  call_room i k inputs =
      let t : Control = record { place = P1; target = 0 } in
      let o : Operation = record { program = k; inputs = inputs } in
      let b₁ = put_control b i t in
      let b₂ = put_operation b₁ i o in
      unless (is_refused (call_answer b i k)) b (put_call b i k inputs)
      (room_number (put_exit b₂ i false) 400 8 i (omega arith) 0
      ∙ (room_number b₂ 392 8 i (omega arith) (bit false)
      ∙ (room_row b₁ 352 8 i (omega arith) (operation_words o)
      ∙ room_row b 336 8 i (omega arith) (control_words t))))

  exit_room : (i : ℕ) → room_in (exit_block b i) ≡ room_in b
  unfolding exit_block
  exit_room i = unless (is_refused (exit_answer b i)) b (put_exit b i true) (room_number b 392 8 i (omega arith) (bit true))

  change_room : (k from : ℕ) (t : List ℕ) → room_in (change_block b k from t) ≡ room_in b
  unfolding change_block table
  change_room k from t =
      let y = (change_text b t).program in
      unless (is_refused (change_answer b k from t)) b (put_change b k from y)
      (room_row (put_from (keep_later b k) k from) 1192 8 k (omega arith) (program_words y)
      ∙ (room_number (keep_later b k) 920 8 k (omega arith) from
      ∙ room_row b 928 8 k (omega arith) (part b (1192 + 33 * k) 33)))

-- no request changes what the card was opened with
abbrev Same : Card → Answered → Type 0
Same c x = contents_of x.card ≡ contents_of c

call_contents : (c : Card) (i k : ℕ) (inputs : Words) → Same c (call c i k inputs)
unfolding call
call_contents c i k inputs =
    on_test (Same c) (not (is_process c i)) (λ _. refl)
    (λ _. on_test (Same c) (not (is_program c k)) (λ _. refl) (λ _. on_test (Same c) (is_busy c i) (λ _. refl) (λ _. refl)))

exit_contents : (c : Card) (i : ℕ) → Same c (request_exit c i)
unfolding request_exit
exit_contents c i =
    on_test (Same c) (not (is_process c i)) (λ _. refl) (λ _. on_test (Same c) (not (is_busy c i)) (λ _. refl) (λ _. refl))

change_contents : (c : Card) (k from : ℕ) (t : List ℕ) → Same c (change c k from t)
unfolding change
change_contents c k from t =
    on_test (Same c) (not (is_program c k)) (λ _. refl)
    (λ _. by (change_read (contents_of c) t).verdict _
    (on_test (Same c) (not (ltb c.gate.seq from)) (λ _. refl) (λ _. on_test (Same c) (is_unsettled c k) (λ _. refl) (λ _. refl))))
  where
    by : (v : Verdict) (y : Answered) → Same c y → Same c (if_read v c y)
    by (Ok _) y h = h
    by (Err e) y h = refl

-- RoomKept IS KEPT
module _ (b l : List ℕ) (kept : RoomKept b l) where
  follows : (after : List ℕ) → room_in after ≡ room_in b → contents_of (card_of after l) ≡ contents_of (card_of b l) → RoomKept after l
  follows after room text = room ∙ (kept ∙ ap (λ (x : Contents). min 32 (card_weight x)) (sym text))

  pub call_room_kept : (i k : ℕ) (inputs : Words) → FitsWords inputs → RoomKept (call_block b i k inputs) l
  call_room_kept i k inputs f =
      follows (call_block b i k inputs) (call_room b i k inputs)
      (ap (λ (x : Answered). contents_of x.card) (call_is b l i k inputs f) ∙ call_contents (card_of b l) i k inputs)

  pub exit_room_kept : (i : ℕ) → RoomKept (exit_block b i) l
  exit_room_kept i =
      follows (exit_block b i) (exit_room b i) (ap (λ (x : Answered). contents_of x.card) (exit_is b l i) ∙ exit_contents (card_of b l) i)

  pub change_room_kept : (k from : ℕ) (t : List ℕ) → RoomKept (change_block b k from t) l
  change_room_kept k from t =
      follows (change_block b k from t) (change_room b k from t)
      (ap (λ (x : Answered). contents_of x.card) (change_is b l kept k from t) ∙ change_contents (card_of b l) k from t)
