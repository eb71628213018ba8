-- What no access changes: the length of the block, the counts and the limit of the card, the room of its dictionaries, its starting values and texts, and
-- every word past the card
use Rattle.std.proofs.Common.{◌≡◌, ℕ, ◌+◌, ◌*◌, ◌<◌, ◌≤◌, min, Bool, true, false, cond, List, length, set, refl, ap, ◌∙◌, inl, inr, arith}
use Rattle.construction.specs.declared.accesses.Swap.{Swap}
use Rattle.codes.specs.Types.{Gate, Announcement, Record, Control, Simulation}
use Rattle.codes.specs.Parts.{word_at, stores}
use Rattle.codes.specs.Codes.{gate_words, control_words, announcement_words, record_words, simulation_words}
use Rattle.codes.proofs.Blocks.{inside}
use Rattle.block.specs.Layout.{is_room, put_row, put_number, room_in, steps_in, count_in, put_steps, put_gate, put_announcement, put_record, put_control, put_count}
use Rattle.block.specs.Layout.{put_last_gate, put_last, put_simulation, put_noted, put_mask}
use Rattle.block.proofs.Rooms.{room_here}
use Rattle.block.proofs.Standing.{Only, only_stores, only_set, number_same}
use Rattle.block.proofs.Puts.{put_row_length, put_number_length}
use Rattle.lent_machine.specs.Accesses.{if_won, next, counted}

pub record Kept (b c : List ℕ) : Type 0 where
  pub size : length c ≡ length b
  pub counts : (q : ℕ) → q < 4 → word_at c q ≡ word_at b q
  pub room : word_at c 7 ≡ word_at b 7
  pub texts : (q : ℕ) → 592 ≤ q → word_at c q ≡ word_at b q

pub kept_self : (b : List ℕ) → Kept b b
kept_self b = record { size = refl; counts = λ q h. refl; room = refl; texts = λ q h. refl }

pub kept_twice : {b c d : List ℕ} → Kept b c → Kept c d → Kept b d
kept_twice x y =
    record {
      size = y.size ∙ x.size;
      counts = λ q h. y.counts q h ∙ x.counts q h;
      room = y.room ∙ x.room;
      texts = λ q h. y.texts q h ∙ x.texts q h;
    }

pub kept_if : {b c : List ℕ} (s : Swap) → Kept b c → Kept b (if_won s c b)
kept_if {b} Swap.None x = kept_self b
kept_if {b} Swap.Lost x = kept_self b
kept_if Swap.Won x = x

-- the room of the dictionaries is not a part of the card
pub kept_room : {b c : List ℕ} → Kept b c → room_in c ≡ room_in b
kept_room {b} {c} x = ap (λ (k : ℕ). min k 32) (number_same b c 7 1 0 x.size x.room)

-- accepted steps and gate; what lies between the room and the starting values
lower : {b c : List ℕ} → length c ≡ length b → Only b c 4 7 → Kept b c
lower e x =
    record {
      size = e;
      counts = λ q h. x.at q (inl (omega arith));
      room = x.at 7 (inr (omega arith));
      texts = λ q h. x.at q (inr (omega arith));
    }

upper : {b c : List ℕ} → length c ≡ length b → Only b c 8 592 → Kept b c
upper e x =
    record {
      size = e;
      counts = λ q h. x.at q (inl (omega arith));
      room = x.at 7 (inl (omega arith));
      texts = λ q h. x.at q (inr (omega arith));
    }

module _ (b : List ℕ) (low high base n i : ℕ) (from : low ≤ base) where
  pub only_row : (words : List ℕ) → base + length words * n ≤ high → Only b (put_row b base (length words) n i words) low high
  unfolding put_row
  only_row words to = go (is_room b i n) refl
    where
      go : (t : Bool) → is_room b i n ≡ t → Only b (cond t (stores b (base + length words * i) words) b) low high
      go true e =
          let z = inside base (length words) n i (room_here b i n e).1 in
          only_stores b (base + length words * i) words low high (omega arith) (omega arith)
      go false e = record { at = λ q h. refl }

  pub only_number : (x : ℕ) → base + n ≤ high → Only b (put_number b base n i x) low high
  unfolding put_number
  only_number x to = go (is_room b i n) refl
    where
      go : (t : Bool) → is_room b i n ≡ t → Only b (cond t (set b (base + i) x) b) low high
      go true e = let z = (room_here b i n e).1 in only_set b (base + i) x low high (omega arith) (omega arith)
      go false e = record { at = λ q h. refl }

module _ (b : List ℕ) where
  upper_row : (base n i : ℕ) (words : List ℕ) → 8 ≤ base → base + length words * n ≤ 592 → Kept b (put_row b base (length words) n i words)
  upper_row base n i words from to = upper (put_row_length b base n i (length words) words) (only_row b 8 592 base n i from words to)

  upper_number : (base n i x : ℕ) → 8 ≤ base → base + n ≤ 592 → Kept b (put_number b base n i x)
  upper_number base n i x from to = upper (put_number_length b base n i x) (only_number b 8 592 base n i from x to)

  pub steps_kept : (x : ℕ) → Kept b (put_steps b x)
  steps_kept x = lower (put_number_length b 4 1 0 x) (only_number b 4 7 4 1 0 (omega arith) x (omega arith))

  pub gate_kept : (g : Gate) → Kept b (put_gate b g)
  gate_kept g = lower (put_row_length b 5 1 0 2 (gate_words g)) (only_row b 4 7 5 1 0 (omega arith) (gate_words g) (omega arith))

  module _ (i : ℕ) where
    pub announcement_kept : (a : Announcement) → Kept b (put_announcement b i a)
    announcement_kept a = upper_row 8 8 i (announcement_words a) (omega arith) (omega arith)

    pub record_kept : (r : Record) → Kept b (put_record b i r)
    record_kept r = upper_row 80 64 i (record_words r) (omega arith) (omega arith)

    pub control_kept : (t : Control) → Kept b (put_control b i t)
    control_kept t = upper_row 336 8 i (control_words t) (omega arith) (omega arith)

    pub count_kept : (x : ℕ) → Kept b (put_count b i x)
    count_kept x = upper_number 400 8 i x (omega arith) (omega arith)

    pub last_gate_kept : (g : Gate) → Kept b (put_last_gate b i g)
    last_gate_kept g = upper_row 408 8 i (gate_words g) (omega arith) (omega arith)

    pub last_kept : (a : Announcement) → Kept b (put_last b i a)
    last_kept a = upper_row 424 8 i (announcement_words a) (omega arith) (omega arith)

    pub simulation_kept : (s : Simulation) → Kept b (put_simulation b i s)
    simulation_kept s = upper_row 496 8 i (simulation_words s) (omega arith) (omega arith)

    pub noted_kept : (n : ℕ) → Kept b (put_noted b i n)
    noted_kept n = upper_number 576 8 i n (omega arith) (omega arith)

    pub mask_kept : (x : ℕ) → Kept b (put_mask b i x)
    mask_kept x = upper_number 584 8 i x (omega arith) (omega arith)

pub counted_kept : (b : List ℕ) (i : ℕ) → Kept b (counted b i)
counted_kept b i = kept_twice (steps_kept b (next (steps_in b))) (count_kept (put_steps b (next (steps_in b))) i (next (count_in b i)))
