-- What a call, an exit request and a change leave of a block: every word but those of the parts that they put. None of them, and no read, answers 11.
use Rattle.std.specs.Prelude.{Ok, Err}
use Prim.Native.Nat.{ℕ, ◌+◌, ◌*◌, ◌<◌, ◌≤◌, min}
use mathlib.Core.Path.{◌≡◌, refl, ◌∙◌, ap}
use mathlib.Core.Logic.{◌⊎◌, inl, inr}
use mathlib.Core.Bool.{Bool, true, false, cond, not, ◌&&◌, ◌||◌}
use mathlib.Core.List.{List}
use native.Mathlib.Omega.{arith}
use lib.Dec.{leb, ltb}
use lib.ListN.{length}
use borrow.Author.Tests.{ltb-true}
use Rattle.construction.specs.declared.{answers.Answer.Answer}
use Rattle.construction.specs.declared.answers.Refusal.TheVariants.{NoProcess, NoProgram, Busy, NotBusy, NoPlace, NotAhead, Unsettled}
use Rattle.construction.specs.Answers.{is_refused}
use Rattle.construction.specs.Requests.{is_idle}
use Rattle.construction.specs.Types.{Verdict}
use Rattle.requests.specs.Judging.{judged, if_text_accepted}
use Rattle.codes.specs.Types.{Words, Control, Operation, P1}
use Rattle.codes.specs.Parts.{word_at, part, table}
use Rattle.codes.specs.Codes.{byte, bit, control_words, operation_words, program_words}
use Rattle.block.specs.Layout.{is_room, number_at, put_row, put_number, process_count_in, variable_count_in, program_count_in, gate_in, control_in, from_in, room_in, noted_in}
use Rattle.block.specs.Layout.{put_control, put_operation, put_exit, put_from, keep_later}
use Rattle.block.proofs.Standing.{Only, number_same}
use Rattle.block.proofs.Puts.{put_row_length, put_number_length}
use Rattle.lent_machine.proofs.Keeping.{only_row, only_number}
use Rattle.lent_card.specs.Requests.{call_answer, call_block, exit_answer, exit_block, value_in, read_answer, behind_in, change_text, change_answer, change_block}
use Rattle.lent_runs.specs.Runs.{is_eleven}

-- two blocks of the same length that differ only from word `low` to below word `high`
pub record Within (low high : ℕ) (b c : List ℕ) : Type 0 where
  pub size : length c ≡ length b
  pub only : Only b c low high

within_twice : {low high : ℕ} {b c d : List ℕ} → Within low high b c → Within low high c d → Within low high b d
within_twice x y = record { size = y.size ∙ x.size; only = record { at = λ q h. y.only.at q h ∙ x.only.at q h } }

module _ (low high : ℕ) (b : List ℕ) where
  pub within_self : Within low high b b
  within_self = record { size = refl; only = record { at = λ q h. refl } }

  within_unless : (t : Bool) {c : List ℕ} → Within low high b c → Within low high b (cond t b c)
  within_unless true x = within_self
  within_unless false x = x

  within_row :
      (base n i : ℕ) (words : List ℕ) → low ≤ base → base + length words * n ≤ high → Within low high b (put_row b base (length words) n i words)
  within_row base n i words from to = record { size = put_row_length b base n i (length words) words; only = only_row b low high base n i from words to }

  within_number : (base n i x : ℕ) → low ≤ base → base + n ≤ high → Within low high b (put_number b base n i x)
  within_number base n i x from to = record { size = put_number_length b base n i x; only = only_number b low high base n i from x to }

module _ (b : List ℕ) where
  -- controls, operations, exit requests and own steps
  pub call_within : (i k : ℕ) (inputs : Words) → Within 336 408 b (call_block b i k inputs)
  unfolding call_block
  call_within i k inputs =
      let t : Control = record { place = P1; target = 0 } in
      let o : Operation = record { program = k; inputs = inputs } in
      let b₁ = put_control b i t in
      let b₂ = put_operation b₁ i o in
      let b₃ = put_exit b₂ i false in
      within_unless 336 408 b (is_refused (call_answer b i k))
      (within_twice (within_row 336 408 b 336 8 i (control_words t) (omega arith) (omega arith))
      (within_twice (within_row 336 408 b₁ 352 8 i (operation_words o) (omega arith) (omega arith))
      (within_twice (within_number 336 408 b₂ 392 8 i (bit false) (omega arith) (omega arith))
      (within_number 336 408 b₃ 400 8 i 0 (omega arith) (omega arith)))))

  -- exit requests
  pub exit_within : (i : ℕ) → Within 336 408 b (exit_block b i)
  unfolding exit_block
  exit_within i = within_unless 336 408 b (is_refused (exit_answer b i)) (within_number 336 408 b 392 8 i (bit true) (omega arith) (omega arith))

  -- the numbers of changes, earlier and later texts
  pub change_within : (k from : ℕ) (t : List ℕ) → Within 920 1456 b (change_block b k from t)
  unfolding change_block table
  change_within k from t =
      let y = (change_text b t).program in
      within_unless 920 1456 b (is_refused (change_answer b k from t))
      (within_twice (within_row 920 1456 b 928 8 k (part b (1192 + 33 * k) 33) (omega arith) (omega arith))
      (within_twice (within_number 920 1456 (keep_later b k) 920 8 k from (omega arith) (omega arith))
      (within_row 920 1456 (put_from (keep_later b k) k from) 1192 8 k (program_words y) (omega arith) (omega arith))))

-- so p, w and what is noted stay
pub same_number :
    (b c : List ℕ) (base n i : ℕ) → length c ≡ length b → (i < n → word_at c (base + i) ≡ word_at b (base + i)) → number_at c base n i ≡ number_at b base n i
unfolding number_at is_room
same_number b c base n i e w = go (ltb i n) refl
  where
    none : (s t : Bool) (x y : ℕ) → cond (s && false) x 0 ≡ cond (t && false) y 0
    none true true x y = refl
    none true false x y = refl
    none false true x y = refl
    none false false x y = refl

    go : (t : Bool) → ltb i n ≡ t → cond (leb 1456 (length c) && t) (word_at c (base + i)) 0 ≡ cond (leb 1456 (length b) && t) (word_at b (base + i)) 0
    go true q = let z = w (ltb-true i n q) in λ j. cond (leb 1456 (e j) && true) (z j) 0
    go false q = none (leb 1456 (length c)) (leb 1456 (length b)) (word_at c (base + i)) (word_at b (base + i))

-- the parts of a block that tell which items of the loan are whose
pub record Counts (b c : List ℕ) : Type 0 where
  pub processes : process_count_in c ≡ process_count_in b
  pub room : room_in c ≡ room_in b
  pub noted : (j : ℕ) → noted_in c j ≡ noted_in b j

module _ {low high : ℕ} {b c : List ℕ} (x : Within low high b c) where
  counts_by : 8 ≤ low → ((q : ℕ) → 576 ≤ q → q < 584 → (q < low) ⊎ (high ≤ q)) → Counts b c
  counts_by past apart =
      let processes = number_same b c 0 1 0 x.size (x.only.at 0 (inl (omega arith))) in
      let room = number_same b c 7 1 0 x.size (x.only.at 7 (inl (omega arith))) in
      record {
        processes = ap byte processes;
        room = ap (λ (k : ℕ). min k 32) room;
        noted = λ j. let count = same_number b c 576 8 j x.size (λ p. x.only.at (576 + j) (apart (576 + j) (omega arith) (omega arith))) in
            λ z. min (byte (count z)) (min (room z) 32);
      }

pub call_counts : (b : List ℕ) (i k : ℕ) (inputs : Words) → Counts b (call_block b i k inputs)
call_counts b i k inputs = counts_by (call_within b i k inputs) (omega arith) (λ q r s. inr (omega arith))

pub exit_counts : (b : List ℕ) (i : ℕ) → Counts b (exit_block b i)
exit_counts b i = counts_by (exit_within b i) (omega arith) (λ q r s. inr (omega arith))

pub change_counts : (b : List ℕ) (k from : ℕ) (t : List ℕ) → Counts b (change_block b k from t)
change_counts b k from t = counts_by (change_within b k from t) (omega arith) (λ q r s. inl (omega arith))

-- no other request answers 11
exit_by : (p q : Bool) → is_eleven (cond (not p) (Answer.Refused NoProcess) (cond (not q) (Answer.Refused NotBusy) Answer.Taken)) ≡ false
exit_by true true = refl
exit_by true false = refl
exit_by false q = refl

call_by : (p q r : Bool) → is_eleven (judged p NoProcess q NoProgram r Busy) ≡ false
call_by true true true = refl
call_by true true false = refl
call_by true false r = refl
call_by false q r = refl

read_by : (p : Bool) (x : ℕ) → is_eleven (cond (not p) (Answer.Refused NoPlace) (Answer.Value x)) ≡ false
read_by true x = refl
read_by false x = refl

change_by :
    (p : Bool) (v : Verdict) (q r : Bool) →
    is_eleven
    (cond (not p) (Answer.RefusedAt NoProgram 0)
    (if_text_accepted v (cond (not q) (Answer.RefusedAt NotAhead 0) (cond r (Answer.RefusedAt Unsettled 0) Answer.Taken))))
    ≡ false
change_by false v q r = refl
change_by true (Err e) q r = refl
change_by true (Ok _) false r = refl
change_by true (Ok _) true true = refl
change_by true (Ok _) true false = refl

module _ (b : List ℕ) where
  pub call_numbers : (i k : ℕ) → is_eleven (call_answer b i k) ≡ false
  unfolding call_answer
  call_numbers i k = call_by (ltb i (process_count_in b) && ltb i 8) (ltb k (program_count_in b) && ltb k 8) (is_idle (control_in b i).place)

  pub exit_numbers : (i : ℕ) → is_eleven (exit_answer b i) ≡ false
  unfolding exit_answer
  exit_numbers i = exit_by (ltb i (process_count_in b) && ltb i 8) (not (is_idle (control_in b i).place))

  pub read_numbers : (v : ℕ) → is_eleven (read_answer b v) ≡ false
  unfolding read_answer
  read_numbers v = read_by (ltb v (variable_count_in b) && ltb v 64) (value_in b v)

  pub change_numbers : (k from : ℕ) (t : List ℕ) → is_eleven (change_answer b k from t) ≡ false
  unfolding change_answer
  change_numbers k from t =
      change_by (ltb k (program_count_in b) && ltb k 8) (change_text b t).verdict (ltb (gate_in b).seq from)
      (ltb (gate_in b).seq (from_in b k) || behind_in b (from_in b k) 8)
